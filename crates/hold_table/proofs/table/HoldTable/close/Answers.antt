use Rattle.hold_table.proofs.Steps.{closes}
use Rattle.hold_table.proofs.table.HoldTable.close.Goals as goal

pub returns : goal.returns
returns c = record { once = closes _ c.close_with.ensures.values.2.0 c.close_with.ensures.values.2.1.0 _ _ c.close_with.ensures.values.2.1.1 c.args.api.is_api c.requires.off }
