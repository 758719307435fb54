use Rattle.cover_laws.proofs.Journals.{bare-law}
use Rattle.cover_laws.proofs.bare_law.Goals as goal

pub returns : goal.returns
returns c = bare-law
