use Rattle.scene_model.proofs.JournalLaws.{journal-text-law}
use Rattle.model_laws.proofs.journal_text_law.Goals as goal

pub returns : goal.returns
returns c = journal-text-law
