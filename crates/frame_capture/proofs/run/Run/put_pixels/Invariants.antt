use Rattle.std.proofs.Common.{◌≡◌, ◌++◌, replicate}
use Rattle.std.specs.Prelude.{flat_map}
use Rattle.frame_capture.specs.Film.{color_bytes}
use Rattle.frame_capture.proofs.run.Run.put_pixels.Given as goal

abbrev pub invariant-loop : goal.invariant-loop
invariant-loop l = l.text.items ≡ l.fn.text.items ++ flat_map color_bytes (replicate l.counter l.self.color)
