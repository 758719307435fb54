use Rattle.view_table.proofs.Kept.{new_table}
use Rattle.view_table.proofs.table.ViewTable.new.Goals as goal

pub invariant_of-result : goal.invariant_of-result
invariant_of-result c =
    new_table c.in_ok-settings.settings.items c.in_ok-sequence.sequence.items c.in_ok-positions.positions.items c.args.views c.requires
    c.in_ok-settings.ensures c.in_ok-sequence.ensures c.in_ok-positions.ensures
