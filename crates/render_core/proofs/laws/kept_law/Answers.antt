use Rattle.render_core.proofs.EndedFrames.{kept_frames}
use Rattle.render_core.proofs.laws.kept_law.Goals as goal

pub returns : goal.returns
returns c = kept_frames
