use Rattle.std.proofs.Common.{rules}
use Rattle.hold_table.proofs.Steps.{draws_keep}
use Rattle.hold_table.proofs.table.HoldTable.draw_number.Goals as goal

pub fetch_add-requires : goal.fetch_add-requires
fetch_add-requires c = (search rules, search rules, draws_keep _ _ _ _ c.args.enc.now.is_recorder c.requires.room)
