use Rattle.block_recording.proofs.Ready.{ready}
use Rattle.block_recording.proofs.laws.block_jobs_are_ready.Goals as goal

pub returns : goal.returns
returns c = ready
