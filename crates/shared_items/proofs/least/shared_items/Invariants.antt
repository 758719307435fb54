use Rattle.std.proofs.Common.{◌≡◌, ◌-◌, length}
use Rattle.std.specs.Prelude.{is_some}
use Rattle.std.specs.List.{find, range_with_len}
use Rattle.shared_items.specs.Items.{partner_item}
use Rattle.shared_items.specs.Marked.{clash_at}
use Rattle.shared_items.proofs.least.shared_items.Given as goal

-- the search from here on is the whole search
abbrev pub invariant-loop-place : goal.invariant-loop-place
invariant-loop-place l =
    find (λ i. is_some (partner_item (clash_at l.view l.lefts l.rights) (length l.rights) i)) (range_with_len l.place (length l.lefts - l.place))
    ≡ find (λ i. is_some (partner_item (clash_at l.view l.lefts l.rights) (length l.rights) i)) (range_with_len 0 (length l.lefts))
