-- How the render of a frame went.
use Rattle.std.specs.Prelude.{Bool, true, false}
use Rattle.frame_record.specs.declared.frame.Outcome.{Outcome}
use Rattle.frame_record.specs.declared.frame.Outcome.TheVariants as outcomes

-- the picture was put whole
abbrev pub is_shown : Outcome → Bool
is_shown outcomes.Shown = true
is_shown outcomes.PictureFault = false
is_shown outcomes.OutOfMemory = false
is_shown outcomes.Skipped = false
