use Rattle.shared_keys.proofs.Clashes.{marks-tell, journal-marks}
use Rattle.shared_keys.proofs.laws.marks_law.Goals as goal

pub returns-clause-tell : goal.returns-clause-tell
returns-clause-tell c = marks-tell

pub returns-clause-by_journal : goal.returns-clause-by_journal
returns-clause-by_journal c = journal-marks
