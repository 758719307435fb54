use Rattle.bare_worlds.proofs.Harmless.{harmless-law}
use Rattle.bare_worlds.proofs.laws.harmless_law.Goals as goal

pub returns : goal.returns
returns c = harmless-law c.bare_law.ensures
