-- A play drops the lines of encoders that have a reason.
use Rattle.std.specs.Prelude.{◌≡◌, ℕ, List, Option}
use Rattle.gfx_model.specs.Words.{Handle}
use Rattle.scene_model.specs.Scene.{EncoderLine}
use Rattle.scene_model.specs.Fold.{Progress}
use Rattle.draw_encoder.specs.Calls.{EncoderView}
use Rattle.block_recording.specs.Lines.{StandFor, IsLineDone, counted}
use Rattle.dropped_lines.specs.Reasons.{encoder_reason}
use Rattle.dropped_lines.specs.Laws.{dropped_for}

-- a line that is done on an encoder drops as many lines as its reason does, by each state that the names and the seat stand for
abbrev pub EncoderLaw : Type 0
EncoderLaw = (names : List (Option Handle)) (line : EncoderLine) (old new : EncoderView) (dropped : ℕ) → IsLineDone names line old new dropped
    → (p : Progress) (d : ℕ) → StandFor names old.seat p → dropped ≡ dropped_for (encoder_reason p (counted old.recorder d) line)
