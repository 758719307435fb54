use Rattle.context_frames.proofs.Recordings.{all_recorded}
use Rattle.context_frames.proofs.recorded_law.Goals as goal

pub returns : goal.returns
returns c = all_recorded c.gathered_law.ensures
