use Rattle.item_lines.proofs.Counts.{items-law}
use Rattle.item_lines.proofs.laws.items_law.Goals as goal

pub returns : goal.returns
returns c = items-law c.number_law.ensures
