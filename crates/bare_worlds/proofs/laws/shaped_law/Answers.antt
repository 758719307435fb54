use Rattle.bare_worlds.proofs.Shaped.{shaped-law}
use Rattle.bare_worlds.proofs.laws.shaped_law.Goals as goal

pub returns : goal.returns
returns c = shaped-law
