use Rattle.hold_table.proofs.Parts.{parts}
use Rattle.hold_table.proofs.laws.rule_keeps_parts.Goals as goal

pub returns : goal.returns
returns c first s h x m st = parts first h.me h.counter s.views h.kept x m st
