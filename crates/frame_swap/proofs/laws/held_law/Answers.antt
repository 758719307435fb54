use Rattle.schedule_model.proofs.KeptFrames.{every-run-holds}
use Rattle.frame_swap.proofs.laws.held_law.Goals as goal

pub returns : goal.returns
returns c = every-run-holds
