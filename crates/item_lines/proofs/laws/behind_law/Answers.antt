use Rattle.item_lines.proofs.Behind.{behind-law}
use Rattle.item_lines.proofs.laws.behind_law.Goals as goal

pub returns : goal.returns
returns c = behind-law c.number_law.ensures
