-- The numbers of things by their places.
use Rattle.std.proofs.Common.{◌≡◌, ◌≢◌, ℕ, zero, suc, ◌+◌, ◌<◌, ◌==◌, Bool, true, false, ◌&&◌, if◌then◌else◌, List, [], ◌∷◌, ◌++◌, length, Option, Some, None, MatchOption, refl, sym, ap, ◌∙◌, arith, slice_index_or, slice_set, option_map, eq-eqb}
use Rattle.std.specs.List.{find}
use Rattle.std.proofs.lemmas.List.{get_or-set_same, get_or-set_other, length-set}
use Rattle.std.proofs.lemmas.Bool.{eqb-true}
use mathlib.Core.Logic.{dite}
use native.Mathlib.Decide.{ℕ_discrete}
use Rattle.gfx_model.specs.Words.{Kind, kind_number, greatest, first_place, place_of_handle}
use Rattle.gfx_model.specs.Resources.{Thing, is_at}
use Rattle.resource_book.specs.Tables.{number_of, IsPlaced}
use Rattle.gfx_model.proofs.Apart.{kind_apart, index_apart, place_below, first_by_number}

abbrev pub IsNumber : (p : Thing → Bool) (ts : List Thing) → Option ℕ → Type 0
IsNumber p ts o = MatchOption o (find p ts ≡ None) (λ n. (n < length ts) × ((d : Thing) → find p ts ≡ Some (slice_index_or ts n d)))

number_step : (p : Thing → Bool) (t : Thing) (ts : List Thing) (o : Option ℕ) → p t ≡ false → IsNumber p ts o → IsNumber p (t ∷ ts) (option_map (λ n. n + 1) o)
number_step p t ts None e h = ap (λ b. if b then Some t else find p ts) e ∙ h
number_step p t ts (Some n) e h = (omega (arith, h.0), λ d. ap (λ b. if b then Some t else find p ts) e ∙ h.1 d ∙ ap (λ m. Some (slice_index_or (t ∷ ts) m d)) (plus n)) where
  plus : (n : ℕ) → suc n ≡ n + 1
  plus n = omega arith

number_case : (p : Thing → Bool) (t : Thing) (ts : List Thing) (b : Bool) → p t ≡ b → IsNumber p ts (number_of p ts) → IsNumber p (t ∷ ts) (if b then Some 0 else option_map (λ n. n + 1) (number_of p ts))
number_case p t ts true e h = (omega arith, λ d. ap (λ b. if b then Some t else find p ts) e)
number_case p t ts false e h = number_step p t ts (number_of p ts) e h

-- the number of the first thing of a test is where it is found
pub number_found : (p : Thing → Bool) (ts : List Thing) → IsNumber p ts (number_of p ts)
number_found p [] = refl
number_found p (t ∷ ts) = number_case p t ts (p t) refl (number_found p ts)

-- a thing in place of another of the same test
pub number_set : (p : Thing → Bool) (ts : List Thing) (i : ℕ) (y d : Thing) → i < length ts → p y ≡ p (slice_index_or ts i d) → number_of p (slice_set ts i y) ≡ number_of p ts
number_set p [] i y d lt e = refl
number_set p (t ∷ ts) zero y d lt e = ap (λ b. if b then Some 0 else option_map (λ n. n + 1) (number_of p ts)) e
number_set p (t ∷ ts) (suc i) y d lt e = ap (λ o. if p t then Some 0 else option_map (λ n. n + 1) o) (number_set p ts i y d (omega (arith, lt)) e)

-- a thing more, where the test held of none
snoc_case : (p : Thing → Bool) (t : Thing) (ts : List Thing) (y : Thing) (b : Bool) → (if b then Some t else find p ts) ≡ None
    → (find p ts ≡ None → number_of p (ts ++ y ∷ []) ≡ (if p y then Some (length ts) else None))
    → (if b then Some 0 else option_map (λ n. n + 1) (number_of p (ts ++ y ∷ []))) ≡ (if p y then Some (suc (length ts)) else None)
snoc_case p t ts y true h f = absurd (Rattle.std.proofs.lemmas.Option.none-some t (sym h))
snoc_case p t ts y false h f = ap (option_map (λ n. n + 1)) (f h) ∙ last (p y) where
  last : (b : Bool) → option_map (λ n. n + 1) (if b then Some (length ts) else None) ≡ (if b then Some (suc (length ts)) else None)
  last true = ap Some (omega arith)
  last false = refl

pub number_snoc : (p : Thing → Bool) (ts : List Thing) (y : Thing) → find p ts ≡ None → number_of p (ts ++ y ∷ []) ≡ (if p y then Some (length ts) else None)
number_snoc p [] y h = refl
number_snoc p (t ∷ ts) y h = snoc_case p t ts y (p t) h (number_snoc p ts y)

-- a thing more, of which the test does not hold
other_case : (p : Thing → Bool) (t : Thing) (ts : List Thing) (y : Thing) (b : Bool) → number_of p (ts ++ y ∷ []) ≡ number_of p ts
    → (if b then Some 0 else option_map (λ n. n + 1) (number_of p (ts ++ y ∷ []))) ≡ (if b then Some 0 else option_map (λ n. n + 1) (number_of p ts))
other_case p t ts y true e = refl
other_case p t ts y false e = ap (option_map (λ n. n + 1)) e

pub number_other : (p : Thing → Bool) (ts : List Thing) (y : Thing) → p y ≡ false → number_of p (ts ++ y ∷ []) ≡ number_of p ts
number_other p [] y e = ap (λ b. if b then Some 0 else None) e
number_other p (t ∷ ts) y e = other_case p t ts y (p t) (number_other p ts y e)

-- ---- places

both_true : (b c : Bool) → b && c ≡ true → (b ≡ true) × (c ≡ true)
both_true true true e = (refl, refl)
both_true true false e = absurd cc
both_true false c e = absurd cc

-- a thing that stands at an index of a kind has its place
place_is : (k : Kind) (i : ℕ) (t : Thing) → is_at k i t ≡ true → place_of_handle t.handle ≡ first_place k + i
place_is k i t e =
    let h = both_true (kind_number t.handle.kind == kind_number k) (t.handle.index == i) e in
    let f = first_by_number t.handle.kind k (eqb-true (kind_number t.handle.kind) (kind_number k) h.0) in
    omega (arith, f, eqb-true t.handle.index i h.1)

is_there : (k : Kind) (i : ℕ) (t : Thing) → i < greatest k → t.handle.index < greatest t.handle.kind → first_place k + i ≡ place_of_handle t.handle → is_at k i t ≡ true
is_there k i t lt below e =
    (λ j. eq-eqb (kind_number t.handle.kind) (kind_number k) (kind_apart t.handle.kind k t.handle.index i below lt (sym e)) j && eq-eqb t.handle.index i (index_apart t.handle.kind k t.handle.index i below lt (sym e)) j)

not_true : (b : Bool) → b ≢ true → b ≡ false
not_true true ne = absurd (ne refl)
not_true false ne = refl

-- ---- what places keep

pub placed_more : (places : List (Option ℕ)) (things : List Thing) (t : Thing) → IsPlaced places things → t.handle.index < greatest t.handle.kind → find (is_at t.handle.kind t.handle.index) things ≡ None
    → IsPlaced (slice_set places (place_of_handle t.handle) (Some (length things))) (things ++ t ∷ [])
placed_more places things t h below none = record {
  many = length-set places (place_of_handle t.handle) (Some (length things)) ∙ h.many;
  stands = λ k i lt. dite (ℕ_discrete (first_place k + i) (place_of_handle t.handle))
      (λ (e : first_place k + i ≡ place_of_handle t.handle).
      let here = is_there k i t lt below e in
      let kinds = kind_apart t.handle.kind k t.handle.index i below lt (sym e) in
      let index = index_apart t.handle.kind k t.handle.index i below lt (sym e) in
      let free : find (is_at k i) things ≡ None = (λ j. find (λ (u : Thing). (kind_number u.handle.kind == sym kinds j) && (u.handle.index == sym index j)) things) ∙ none in
      ap (λ n. slice_index_or (slice_set places (place_of_handle t.handle) (Some (length things))) n None) e
      ∙ get_or-set_same places (place_of_handle t.handle) (Some (length things)) None (omega (arith, h.many, place_below t.handle.kind t.handle.index below))
      ∙ sym (number_snoc (is_at k i) things t free ∙ ap (λ b. if b then Some (length things) else None) here))
      (λ (ne : first_place k + i ≢ place_of_handle t.handle).
      get_or-set_other places (place_of_handle t.handle) (first_place k + i) (Some (length things)) None ne
      ∙ h.stands k i lt ∙ sym (number_other (is_at k i) things t (not_true (is_at k i t) (λ e. ne (sym (place_is k i t e))))));
}

pub placed_changed : (places : List (Option ℕ)) (things : List Thing) (n : ℕ) (y d : Thing) → n < length things → y.handle ≡ (slice_index_or things n d).handle → IsPlaced places things → IsPlaced places (slice_set things n y)
placed_changed places things n y d lt same h = record {
  many = h.many;
  stands = λ k i low. h.stands k i low ∙ sym (number_set (is_at k i) things n y d lt (λ j. (kind_number (same j).kind == kind_number k) && ((same j).index == i)));
}
