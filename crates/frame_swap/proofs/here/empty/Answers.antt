use Rattle.std.proofs.Common.{rules, Some}
use Rattle.frame_swap.proofs.here.empty.Goals as goal

pub exchange-requires : goal.exchange-requires
exchange-requires c = (search rules, (Some c.requires.slot.0, c.requires.slot.1))
