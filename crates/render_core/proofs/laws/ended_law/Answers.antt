use Rattle.render_core.proofs.EndedFrames.{ended_frames}
use Rattle.render_core.proofs.laws.ended_law.Goals as goal

pub returns : goal.returns
returns c = ended_frames
