use Rattle.std.proofs.Common.{take}
use Rattle.view_table.proofs.Named.{IsNamed}
use Rattle.view_table.proofs.order.named_once.Given as goal

-- the ids before the index stand once, and just these are named
abbrev pub invariant-loop-id : goal.invariant-loop-id
invariant-loop-id l = IsNamed 512 l.named (take l.id-index l.ids)
