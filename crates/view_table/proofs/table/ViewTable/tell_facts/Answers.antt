use Rattle.view_table.proofs.Kept.{table_seen}
use Rattle.view_table.proofs.table.ViewTable.tell_facts.Goals as goal

pub returns : goal.returns
returns c = table_seen c.self.inside.settings.items c.self.inside.listed c.self.inside.sequence.items c.self.inside.positions.items c.args.self.now c.self.invariant.0 c.self.invariant.1 c.self.view_is
