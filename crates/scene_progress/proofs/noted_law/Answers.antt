use Rattle.scene_progress.proofs.Journals.{report_is, noted_more}
use Rattle.scene_progress.proofs.noted_law.Goals as goal

pub returns-clause-report : goal.returns-clause-report
returns-clause-report c = report_is

pub returns-clause-more : goal.returns-clause-more
returns-clause-more c = noted_more
