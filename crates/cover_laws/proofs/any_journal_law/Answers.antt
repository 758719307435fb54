use Rattle.cover_laws.proofs.Journals.{any-journal-law}
use Rattle.cover_laws.proofs.any_journal_law.Goals as goal

pub returns : goal.returns
returns c = any-journal-law
