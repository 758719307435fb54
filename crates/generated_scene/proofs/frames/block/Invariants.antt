use Rattle.std.proofs.Common.{◌≡◌, map}
use Rattle.scene_text.specs.Seen.{encoder_line_seen}
use Rattle.generated_scene.proofs.Grows.{lines_below}
use Rattle.generated_scene.proofs.frames.block.Given as goal

abbrev pub invariant-loop-draw : goal.invariant-loop-draw
invariant-loop-draw l = map encoder_line_seen l.lines.items ≡ lines_below l.frame l.encoder l.draw
