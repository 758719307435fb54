use Rattle.scene_traces.proofs.Gathered.{gathered-doers-law}
use Rattle.scene_traces.proofs.laws.gathered_doers_law.Goals as goal

pub returns : goal.returns
returns c = gathered-doers-law
