use Rattle.render_stores.specs.Seen.{stores_seen}
use Rattle.shares_running.specs.Listed.{lists_seen}
use Rattle.shares_running.proofs.Judged.{judges-same}
use Rattle.shares_running.proofs.leaving.LeavingLinkFrameLink.try_take_back.Goals as goal

pub invariant_of-self : goal.invariant_of-self
invariant_of-self c = record {
  judged = λ whole.
      let l = c.args.self.now in
      judges-same l.width l.height (stores_seen l.frames.stores) (lists_seen l.lists.items) _ _ c.try_take_back.ensures.given (l.judged whole);
}
