use Rattle.std.proofs.Common.{◌≡◌, take}
use Rattle.draw_encoder.specs.Seen.{uniforms_seen}
use Rattle.store_laws.specs.ByIndex.{with_values}
use Rattle.view_drawing.proofs.uniforms.set_values.Given as goal

abbrev pub invariant-loop-set : goal.invariant-loop-set
invariant-loop-set l = l.buffers ≡ with_values l.fn.buffers (uniforms_seen (take l.set-index l.sets))
