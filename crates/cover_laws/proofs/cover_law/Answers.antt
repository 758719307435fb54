use Rattle.cover_laws.proofs.Frames.{cover-law}
use Rattle.cover_laws.proofs.cover_law.Goals as goal

pub returns : goal.returns
returns c = cover-law
