use Rattle.std.proofs.Common.{rules, ◌≡◌, None, Some, ◌∙◌}
use Rattle.frame_swap.proofs.Slots.{value_is}
use Rattle.frame_swap.proofs.here.fill.Goals as goal

pub exchange-requires : goal.exchange-requires
exchange-requires c = (search rules, (None, c.requires.slot))

pub unreachable-requires : goal.unreachable-requires
unreachable-requires c = let same : None ≡ Some c.in-Some.field-0 = value_is _ _ _ _ _ _ c.requires.slot c.exchange.ensures.2 ∙ c.in-Some.is in absurd (cc same)
