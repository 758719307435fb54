use Rattle.frame_steps.proofs.Dones.{done-law}
use Rattle.frame_steps.proofs.laws.done_law.Goals as goal

pub returns : goal.returns
returns c = done-law
