use Rattle.scene_text.proofs.RunLines.{vertices_first}
use Rattle.scene_text.proofs.runs.vertices_at.Goals as goal

pub returns-in-Ok : goal.returns-in-Ok
returns-in-Ok c = vertices_first c.args.names.now c.args.bytes.now c.in_ok-layout.first c.in_ok-end.end c.in_ok-layout.layout c.in-Ok.bytes c.requires c.in_ok-layout.ensures.0 c.in_ok-layout.ensures.1 c.in_ok-end.ensures c.in-Ok.ensures
