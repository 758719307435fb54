use Rattle.std.proofs.lemmas.Int.{to_z-of_z}
use Rattle.scene_text.proofs.RunLines.{set_first}
use Rattle.scene_text.proofs.runs.set_at.Goals as goal

pub returns : goal.returns
returns c = rw (c.four.ensures, to_z-of_z _ _ c.in_ok-x.ensures.3, to_z-of_z _ _ c.in_ok-y.ensures.3, to_z-of_z _ _ c.in_ok-z.ensures.3, to_z-of_z _ _ c.in_ok-w.ensures.3) (set_first c.args.names.now c.args.bytes.now c.in_ok-uniform.first c.in_ok-x.second c.in_ok-y.third c.in_ok-z.fourth c.in_ok-w.end c.in_ok-uniform.uniform c.in_ok-x.x c.in_ok-y.y c.in_ok-z.z c.in_ok-w.w c.requires c.in_ok-uniform.ensures.0 c.in_ok-uniform.ensures.1 c.in_ok-x.ensures c.in_ok-y.ensures c.in_ok-z.ensures c.in_ok-w.ensures)
