-- Frames that were shown.
use Rattle.std.specs.Prelude.{◌≡◌, Bool, true, false}
use Rattle.frame_record.specs.declared.frame.RenderedFrame.{RenderedFrame}
use Rattle.frame_record.specs.declared.frame.Outcome.{Outcome}
use Rattle.frame_record.specs.declared.frame.Outcome.TheVariants as outcomes

-- the frame was shown
abbrev pub IsShown : RenderedFrame → Type 0
IsShown r = r.outcome ≡ outcomes.Shown

abbrev pub is_shown_outcome : Outcome → Bool
is_shown_outcome outcomes.Shown = true
is_shown_outcome outcomes.PictureFault = false
is_shown_outcome outcomes.OutOfMemory = false
is_shown_outcome outcomes.Skipped = false

-- whether the frame was shown
abbrev pub is_shown : RenderedFrame → Bool
is_shown r = is_shown_outcome r.outcome
