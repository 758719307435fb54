use Rattle.scene_text.proofs.RunLines.{submit_first}
use Rattle.scene_text.proofs.runs.submit_at.Goals as goal

pub returns : goal.returns
returns c = submit_first c.args.names.now c.args.bytes.now c.in_ok-view.first c.in_ok-program.second c.in_ok-depth.third c.in_ok-flags.end c.in_ok-view.view c.in_ok-program.program c.in_ok-depth.depth c.in_ok-flags.flags c.requires c.in_ok-view.ensures c.in_ok-program.ensures.0 c.in_ok-program.ensures.1 c.in_ok-depth.ensures c.in_ok-flags.ensures
