use Rattle.std.proofs.Common.{rules}
use Rattle.hold_table.proofs.Steps.{advances_keep}
use Rattle.hold_table.proofs.table.HoldTable.advance.Goals as goal

pub load-start-requires : goal.load-start-requires
load-start-requires c = (search rules, search rules, advances_keep _ _ _ _ c.args.api.now.is_api c.requires.off c.requires.frame)
