-- Which views a list names, as a list of tests.
use Rattle.std.proofs.Common.{◌≡◌, ◌<◌, ◌+◌, ℕ, Bool, true, false, ◌||◌, List, [], ◌∷◌, ◌++◌, length, replicate, take, drop, slice_index, slice_index_or, slice_set, refl, sym, ap, ◌∙◌, arith}
use mathlib.Core.Logic.{⊎_elim}
use Rattle.std.proofs.lemmas.Bool.{cases_eq, eq-eqb, ne_eqb}
use Rattle.std.proofs.lemmas.List.{take_more, take-append-drop, drop_more, get_or-set_same, get_or-set_other, length-set, length-replicate, get_or-replicate}
use Rattle.gfx_model.specs.Number.{is_among, is_without_repeat}
use Rattle.view_table.proofs.Lists.{among-append, without_more, repeat_found}

-- a list stands without a repeat, and just its numbers are named
pub record IsNamed (count : ℕ) (named : List Bool) (done : List ℕ) : Type 0 where
  pub long : length named ≡ count
  pub once : is_without_repeat done ≡ true
  pub names : (v : ℕ) → v < count → slice_index_or named v false ≡ is_among v done

or_none : (b : Bool) → b ≡ (b || false)
or_none true = refl
or_none false = refl

or_true : (a b : Bool) → b ≡ true → true ≡ (a || b)
or_true true b e = refl
or_true false b e = sym e

names_more : (named : List Bool) (done : List ℕ) (id v : ℕ) → id < length named → slice_index_or named v false ≡ is_among v done
    → slice_index_or (slice_set named id true) v false ≡ is_among v (done ++ id ∷ [])
names_more named done id v within k =
    ⊎_elim
    (λ e. ap (λ w. slice_index_or (slice_set named id true) w false) e
    ∙ get_or-set_same named id true false within
    ∙ or_true (is_among v done) (is_among v (id ∷ [])) (rw (eq-eqb v id e) refl)
    ∙ sym (among-append v done (id ∷ [])))
    (λ n. get_or-set_other named id v true false n
    ∙ k ∙ or_none (is_among v done)
    ∙ ap (λ b. is_among v done || (b || false)) (sym (ne_eqb v id n))
    ∙ sym (among-append v done (id ∷ [])))
    (cases_eq v id)

-- no id is named
pub named_none : (count : ℕ) → IsNamed count (replicate count false) []
named_none count = record { long = length-replicate count false; once = refl; names = λ v h. get_or-replicate count v false false h }

-- one more id that was not named
pub named_more : (count : ℕ) (named : List Bool) (ids : List ℕ) (i : ℕ) → IsNamed count named (take i ids) → i < length ids
    → slice_index ids i < count → slice_index_or named (slice_index ids i) false ≡ false
    → IsNamed count (slice_set named (slice_index ids i) true) (take (i + 1) ids)
named_more count named ids i k within below free =
    rw (take_more ids i 0 within) (record {
      long = length-set named (slice_index ids i) true ∙ k.long;
      once = without_more (take i ids) (slice_index ids i) k.once (sym (k.names (slice_index ids i) below) ∙ free);
      names = λ v h. names_more named (take i ids) (slice_index ids i) v (omega (arith, k.long, below)) (k.names v h);
    })

-- an id that is named already stands twice
pub named_twice : (count : ℕ) (named : List Bool) (ids : List ℕ) (i : ℕ) → IsNamed count named (take i ids) → i < length ids
    → slice_index ids i < count → slice_index_or named (slice_index ids i) false ≡ true → is_without_repeat ids ≡ false
named_twice count named ids i k within below found =
    let whole : take i ids ++ slice_index ids i ∷ drop (i + 1) ids ≡ ids
    = ap (λ rest. take i ids ++ rest) (sym (drop_more ids i 0 within)) ∙ take-append-drop i ids in
    rw (← whole) (repeat_found (take i ids) (drop (i + 1) ids) (slice_index ids i) (sym (k.names (slice_index ids i) below) ∙ found))
