-- Frames of one recording.
use Rattle.std.proofs.Common.{◌≡◌, ◌≤◌, ◌<◌, ◌==◌, ◌+◌, ℕ, Bool, true, false, if◌then◌else◌, List, [], ◌∷◌, ◌++◌, map, length, ⊎_elim, length-append, refl, sym, ap, subst, ◌∙◌, arith, append-nil}
use Rattle.std.specs.List.{AllByRecursion}
use Rattle.std.proofs.lemmas.Bool.{cases_lt, ne_eqb}
use Rattle.gfx_model.specs.Frames.{collected, NumbersAscend}
use Rattle.schedule_model.specs.Held.{Ascends, count_of}
use Rattle.draw_encoder.specs.declared.items.Recording.{Recording}
use Rattle.draw_encoder.specs.Seen.{numbers_of}
use Rattle.gfx_words.specs.declared.journal.JournalEntry.{JournalEntry}
use Rattle.frame_record.specs.Kept.{IsKept, IsCollectable, numbers_in}
use Rattle.frame_record.specs.Seen.{entry_seen, recordings_seen}

-- a recording's items are as many as a frame may have, and their numbers ascend
abbrev pub IsAscending : Recording → Type 0
IsAscending r = (length (numbers_of r.items) ≤ 65528) × Ascends (numbers_of r.items)

-- ---- lists that ascend

abbrev one_if : Bool → ℕ
one_if b = if b then 1 else 0

none_below : (n m : ℕ) (ms : List ℕ) → n ≤ m → Ascends (m ∷ ms) → count_of n ms ≡ 0
none_below n m [] le a = refl
none_below n m (k ∷ ks) le a =
    let zero : one_if (k == n) ≡ 0 = ap one_if (ne_eqb k n (λ e. omega (arith, e, le, a.0))) in
    let rest : count_of n ks ≡ 0 = none_below n k ks (omega (arith, le, a.0)) a.1 in
    omega (arith, zero, rest)

one_most : (b : Bool) → one_if b ≤ 1
one_most true = omega arith
one_most false = omega arith

-- no number stands twice
once : (n : ℕ) (ms : List ℕ) → Ascends ms → count_of n ms ≤ 1
once n [] a = omega arith
once n (m ∷ []) a = let one = one_most (m == n) in omega (arith, one)
once n (m ∷ k ∷ ks) a =
    ⊎_elim
    (λ (lt : m < n).
    let zero : one_if (m == n) ≡ 0 = ap one_if (ne_eqb m n (λ e. omega (arith, e, lt))) in
    let rest : count_of n (k ∷ ks) ≤ 1 = once n (k ∷ ks) a.1 in
    omega (arith, zero, rest))
    (λ (le : n ≤ m).
    let one = one_most (m == n) in
    let rest : count_of n (k ∷ ks) ≡ 0 = none_below n m (k ∷ ks) le a in
    omega (arith, one, rest))
    (cases_lt m n)

-- one number more, above all others
ascends_more : (ms : List ℕ) (n : ℕ) → Ascends ms → AllByRecursion (λ m. m < n) ms → Ascends (ms ++ n ∷ [])
ascends_more [] n a below = tt
ascends_more (m ∷ []) n a below = (below.0, tt)
ascends_more (m ∷ k ∷ ks) n a below = (a.0, ascends_more (k ∷ ks) n a.1 below.1)

below_more : (ms : List ℕ) (n : ℕ) → AllByRecursion (λ m. m < n) ms → AllByRecursion (λ m. m < n + 1) (ms ++ n ∷ [])
below_more [] n below = (omega arith, tt)
below_more (m ∷ ms) n below = (let lt = below.0 in omega (arith, lt), below_more ms n below.1)

-- as many numbers as a bound, below it and ascending
pub record Counts (n : ℕ) (ms : List ℕ) : Type 0 where
  pub many : length ms ≡ n
  pub below : AllByRecursion (λ m. m < n) ms
  pub ascend : Ascends ms

pub counts_more : (n : ℕ) (ms : List ℕ) → Counts n ms → Counts (n + 1) (ms ++ n ∷ [])
counts_more n ms c = record { many = length-append ms (n ∷ []) ∙ ap (λ k. k + 1) c.many; below = below_more ms n c.below; ascend = ascends_more ms n c.ascend c.below }

-- ---- a frame of it

numbers_one : (r : Recording) → numbers_in (r ∷ []) ≡ numbers_of r.items
numbers_one r = append-nil (numbers_of r.items)

few_one : (r : Recording) → IsAscending r → length (numbers_in (r ∷ [])) ≤ 65528
few_one r own = subst (λ (ns : List ℕ). length ns ≤ 65528) (sym (numbers_one r)) own.0

pub collectable : (r : Recording) → IsAscending r → IsCollectable (r ∷ [])
collectable r own = record { few = few_one r own; ascends = (own.1, tt) }

pub kept : (r : Recording) (journal : List JournalEntry) → IsAscending r → map entry_seen journal ≡ collected (recordings_seen (r ∷ []))
    → AllByRecursion (λ r. NumbersAscend 0 r.items) (recordings_seen (r ∷ [])) → IsKept (r ∷ []) journal
kept r journal own is ascend = record {
  few = few_one r own;
  apart = subst (λ (ns : List ℕ). (n : ℕ) → count_of n ns ≤ 1) (sym (numbers_one r)) (λ n. once n (numbers_of r.items) own.1);
  own = (tt, tt);
  ascend = ascend;
  journal = is;
}
