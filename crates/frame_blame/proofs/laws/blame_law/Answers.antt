use Rattle.frame_blame.proofs.Traced.{blame-law}
use Rattle.frame_blame.proofs.laws.blame_law.Goals as goal

pub returns : goal.returns
returns c = blame-law
