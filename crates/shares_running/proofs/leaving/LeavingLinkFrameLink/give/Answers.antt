use Rattle.std.proofs.Common.{List, sym, subst}
use Rattle.frame_record.specs.declared.frame.Frame.{Frame}
use Rattle.frame_keeping.specs.Kept.{given_by}
use Rattle.render_stores.specs.Seen.{stores_seen}
use Rattle.shares_running.specs.Listed.{lists_seen}
use Rattle.shares_running.specs.Left.{Judges}
use Rattle.shares_running.proofs.leaving.LeavingLinkFrameLink.give.Goals as goal

pub invariant_of-self : goal.invariant_of-self
invariant_of-self c =
    let link = c.args.self.now in
    record {
      judged = λ whole.
          subst (λ (fs : List Frame). ∥ Judges link.width link.height (stores_seen c.judge_whole-self.new.frames.stores) (lists_seen c.judge_whole-self.new.lists.items) fs ∥₁) (sym c.give.ensures.given)
          (c.judge_whole-self.ensures.judged whole link.width link.height (given_by link.link) (link.judged (c.judge_whole-self.ensures.before whole)));
    }
