use Rattle.dropped_lines.proofs.Counted.{step-law}
use Rattle.dropped_lines.proofs.step_law.Goals as goal

pub returns : goal.returns
returns c = step-law
