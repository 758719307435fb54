-- The order that a list of views gives, as it is written down.
use Rattle.std.proofs.Common.{◌≡◌, ◌<◌, ◌≤◌, ◌+◌, ℕ, Bool, true, false, not, List, ◌++◌, length, take, filter, slice_index, slice_index_or, sym, ap, ◌∙◌, arith}
use Rattle.std.specs.List.{range_with_len}
use Rattle.gfx_model.specs.Number.{is_among, is_without_repeat, place_of}
use Rattle.view_table.specs.Order.{AreBelow, in_order, is_unnamed, unnamed}
use Rattle.view_table.proofs.Lists.{at_place}
use Rattle.view_table.proofs.Permuted.{is_other, filter_range_same, others_length, order_length, order_has, order_without, order_below}

-- a list of tests names just the ids of a list
pub record Names (count : ℕ) (named : List Bool) (ids : List ℕ) : Type 0 where
  pub long : count ≤ length named
  pub below : AreBelow count ids
  pub once : is_without_repeat ids ≡ true
  pub names : (v : ℕ) → v < count → slice_index_or named v false ≡ is_among v ids

others_to : (count : ℕ) (named : List Bool) (ids : List ℕ) → Names count named ids
    → filter (is_unnamed named) (range_with_len 0 count) ≡ filter (is_other ids) (range_with_len 0 count)
others_to count named ids k =
    filter_range_same (is_unnamed named) (is_other ids) 0 count (λ v l m. ap not (k.names v (omega (arith, m))))

pub room_of : (count : ℕ) (named : List Bool) (ids : List ℕ) → Names count named ids → length ids + length (unnamed named count) ≡ count
room_of count named ids k = ap (λ xs. length ids + length xs) (others_to count named ids k) ∙ others_length count ids k.once k.below

pub listed_le : (count : ℕ) (ids : List ℕ) → is_without_repeat ids ≡ true → AreBelow count ids → length ids ≤ count
listed_le count ids once below = omega (arith, others_length count ids once below)

pub filled : (count : ℕ) (named : List Bool) (ids front new : List ℕ) → Names count named ids → take (length ids) front ≡ ids
    → new ≡ take (length ids) front ++ unnamed named count → new ≡ in_order count ids
filled count named ids front new k f e = e ∙ ap (λ xs. xs ++ unnamed named count) f ∙ ap (λ xs. ids ++ xs) (others_to count named ids k)

pub filled_below : (count : ℕ) (ids new : List ℕ) → AreBelow count ids → is_without_repeat ids ≡ true → new ≡ in_order count ids → AreBelow (length new) new
filled_below count ids new below once e =
    let long : length new ≡ count = ap length e ∙ order_length count ids once below in
    λ i h. let there : slice_index (in_order count ids) i < count = order_below count ids below i (omega (arith, h, ap length e)) in
    let same : slice_index new i ≡ slice_index (in_order count ids) i = ap (λ xs. slice_index xs i) e in
    omega (arith, there, same, long)

pub filled_without : (count : ℕ) (ids new : List ℕ) → is_without_repeat ids ≡ true → new ≡ in_order count ids → is_without_repeat new ≡ true
filled_without count ids new once e = ap is_without_repeat e ∙ order_without count ids once

pub filled_positions : (count : ℕ) (ids new positions : List ℕ) → AreBelow count ids → is_without_repeat ids ≡ true → new ≡ in_order count ids
    → ((p : ℕ) → p < length new → slice_index positions (slice_index new p) ≡ p)
    → (v : ℕ) → v < count → slice_index positions v ≡ place_of v new
filled_positions count ids new positions below once e written v h =
    let there : is_among v new ≡ true = ap (is_among v) e ∙ order_has count ids v h in
    let p = at_place v new there in
    ap (slice_index positions) (sym p.1) ∙ written (place_of v new) p.0
