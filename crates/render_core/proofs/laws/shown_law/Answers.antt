use Rattle.render_core.proofs.ShownFrames.{shown_frames}
use Rattle.render_core.proofs.laws.shown_law.Goals as goal

pub returns : goal.returns
returns c = shown_frames
