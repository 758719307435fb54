use Rattle.context_frames.proofs.Given.{given_frames}
use Rattle.context_frames.proofs.frame_law.Goals as goal

pub returns : goal.returns
returns g c = given_frames _ c.gathered_law.ensures
