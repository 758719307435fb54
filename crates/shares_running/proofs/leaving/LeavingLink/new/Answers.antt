use Rattle.std.proofs.Common.{ap}
use Rattle.frame_keeping.specs.Kept.{given_by}
use Rattle.render_stores.specs.Seen.{stores_seen}
use Rattle.shares_running.specs.Listed.{lists_seen}
use Rattle.shares_running.proofs.Judged.{judges-first}
use Rattle.shares_running.proofs.leaving.LeavingLink.new.Goals as goal

pub invariant_of-result : goal.invariant_of-result
invariant_of-result c = record {
  judged = λ whole.
      ∣ judges-first c.args.width c.args.height (stores_seen c.in_ok-frames.frames.stores) (lists_seen c.new-lists.result.items) (given_by c.in_ok-link.link) c.in_ok-frames.ensures (ap lists_seen c.new-lists.ensures.items) c.in_ok-link.ensures.0 ∣₁;
}
