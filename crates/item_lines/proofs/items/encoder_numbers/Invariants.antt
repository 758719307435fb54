use Rattle.std.proofs.Common.{◌≡◌, take}
use Rattle.item_lines.specs.Items.{numbers_of}
use Rattle.item_lines.proofs.items.encoder_numbers.Given as goal

abbrev pub invariant-loop-item : goal.invariant-loop-item
invariant-loop-item l = l.numbers.items ≡ numbers_of l.frame l.encoder (take l.item-index l.items)
