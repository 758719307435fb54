-- The journal of a frame that was given is the order of the numbers drawn.
use Rattle.std.proofs.Common.{◌≡◌, Bool, true, List, sym, ap, ◌∙◌, subst}
use Rattle.gfx_model.specs.Frames.{collected}
use Rattle.draw_encoder.specs.declared.items.Recording.{Recording}
use Rattle.frame_record.specs.Kept.{numbers_in}
use Rattle.frame_record.specs.Seen.{recordings_seen}
use Rattle.gfx_context.specs.declared.report.FrameReport.{FrameReport}
use Rattle.gfx_context.specs.States.{ContextView}
use Rattle.gfx_context.specs.Ended.{Ends, Gives, GivesWhere, IsOrderDrawn}

module _ {L : Type 0} (report : FrameReport) (old new : ContextView L) (e : Ends report old new) where
  drawn_by : Gives old new → IsOrderDrawn report.journal.items new
  drawn_by g = record {
    before = old.given;
    frame = g.frame;
    given = g.given;
    recordings = g.is_of.recordings ∙ sym (ap (λ (v : ContextView L). v.last.recordings) g.same);
    numbers = ap numbers_in g.is_of.recordings ∙ sym g.drawn ∙ sym (ap (λ (v : ContextView L). v.last.seat.numbers) g.same);
    order = g.is_of.journal ∙ ap (λ (rs : List Recording). collected (recordings_seen rs)) (sym g.is_of.recordings);
    told = e.journal ∙ sym g.is_of.journal;
  }

  pub drawn_told : report.given ≡ true → IsOrderDrawn report.journal.items new
  drawn_told is = drawn_by (subst (λ (b : Bool). GivesWhere b old new) is e.gives)
