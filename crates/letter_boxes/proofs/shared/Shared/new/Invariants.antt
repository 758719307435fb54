use Rattle.std.proofs.Common.{◌≡◌, ◌≤◌, All, length}
use Rattle.hold_table.specs.Seats.{table_of}
use Rattle.letter_boxes.proofs.shared.Shared.new.Given as goal

abbrev pub invariant-loop : goal.invariant-loop
invariant-loop g l = (length l.boxes.items ≡ l.counter) × (l.counter ≤ 8) × All (λ b. table_of b.mail.shared.key ≡ table_of l.table) l.boxes.items
