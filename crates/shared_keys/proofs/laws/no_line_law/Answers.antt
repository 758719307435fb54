use Rattle.shared_keys.proofs.NoLine.{no-line}
use Rattle.shared_keys.proofs.laws.no_line_law.Goals as goal

pub returns : goal.returns
returns c = no-line
