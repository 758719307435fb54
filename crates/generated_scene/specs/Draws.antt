-- The draws of an encoder.
use Rattle.std.specs.Prelude.{ℕ, ◌%◌, ◌==◌, if◌then◌else◌, List, []}
use Rattle.scene_model.specs.Scene.{EncoderLine}
use Rattle.scene_model.specs.Generated.{draw_lines}

-- the lines of draw d in the block of encoder e
abbrev pub lines_of_draw : (frame encoder draw : ℕ) → List EncoderLine
lines_of_draw f e d = if d % 4 == e then draw_lines f d else []
