-- Handles of bands, one after another.
use Rattle.std.proofs.Common.{◌≡◌, ℕ, zero, suc, ◌+◌, ◌<◌, ◌≤◌, List, [], ◌∷◌, map, take, drop, length, Option, Some, None, refl, sym, ap, ◌∙◌, subst, arith}
use Rattle.std.specs.Prelude.{slice_set, slice_index_or}
use Rattle.std.specs.List.{AllByRecursion}
use Rattle.gfx_model.specs.Number.{map_from}
use Rattle.c_calls.specs.Bands.{IsNull, IsRows, AreNull, AreLent, values_of}
use Rattle.c_calls.specs.declared.objects.Object.{Object}
use Rattle.c_calls.specs.declared.slot.Slot.{Slot}

-- ---- lists

-- the values after one slot is set
pub values_set : (xs : List Slot) (i : ℕ) (s : Slot) → values_of (slice_set xs i s) ≡ slice_set (values_of xs) i s.value
values_set [] i s = refl
values_set (x ∷ xs) zero s = refl
values_set (x ∷ xs) (suc i) s = ap (λ vs. x.value ∷ vs) (values_set xs i s)

pub values_at : (xs : List Slot) (i : ℕ) (d : Slot) → slice_index_or (values_of xs) i d.value ≡ (slice_index_or xs i d).value
values_at [] i d = refl
values_at (x ∷ xs) zero d = refl
values_at (x ∷ xs) (suc i) d = values_at xs i d

pub values_length : (xs : List Slot) → length (values_of xs) ≡ length xs
values_length [] = refl
values_length (x ∷ xs) = ap suc (values_length xs)

-- a value that is set to itself
pub set_same : {A : Type 0} (xs : List A) (i : ℕ) (v d : A) → i < length xs → v ≡ slice_index_or xs i d → slice_set xs i v ≡ xs
set_same [] i v d lt e = absurd (omega (arith, lt))
set_same (x ∷ xs) zero v d lt e = ap (λ y. y ∷ xs) e
set_same (x ∷ xs) (suc i) v d lt e = ap (λ ys. x ∷ ys) (set_same xs i v d (omega (arith, lt)) e)

pub set_length : {A : Type 0} (xs : List A) (i : ℕ) (v : A) → length (slice_set xs i v) ≡ length xs
set_length [] i v = refl
set_length (x ∷ xs) zero v = refl
set_length (x ∷ xs) (suc i) v = ap suc (set_length xs i v)

module _ {A : Type 0} (P : A → Type 0) where
  front_set : (i : ℕ) (xs : List A) (v : A) → i < length xs → P v → AllByRecursion P (take i xs) → AllByRecursion P (take (suc i) (slice_set xs i v))
  front_set zero [] v lt p all = absurd (omega (arith, lt))
  front_set zero (x ∷ xs) v lt p all = (p, tt)
  front_set (suc i) [] v lt p all = absurd (omega (arith, lt))
  front_set (suc i) (x ∷ xs) v lt p all = (all.0, front_set i xs v (omega (arith, lt)) p all.1)

  rest_set : (i : ℕ) (xs : List A) (v : A) → i < length xs → AllByRecursion P (drop i xs) → AllByRecursion P (drop (suc i) (slice_set xs i v))
  rest_set zero [] v lt all = absurd (omega (arith, lt))
  rest_set zero (x ∷ xs) v lt all = all.1
  rest_set (suc i) [] v lt all = absurd (omega (arith, lt))
  rest_set (suc i) (x ∷ xs) v lt all = rest_set i xs v (omega (arith, lt)) all

  -- one more of the first ones
  front_more : (i : ℕ) (xs : List A) (d : A) → i < length xs → AllByRecursion P (take i xs) → P (slice_index_or xs i d) → AllByRecursion P (take (suc i) xs)
  front_more zero [] d lt all p = absurd (omega (arith, lt))
  front_more zero (x ∷ xs) d lt all p = (p, tt)
  front_more (suc i) [] d lt all p = absurd (omega (arith, lt))
  front_more (suc i) (x ∷ xs) d lt all p = (all.0, front_more i xs d (omega (arith, lt)) all.1 p)

  front_all : (i : ℕ) (xs : List A) → length xs ≤ i → AllByRecursion P (take i xs) → AllByRecursion P xs
  front_all i [] le all = tt
  front_all zero (x ∷ xs) le all = absurd (omega (arith, le))
  front_all (suc i) (x ∷ xs) le all = (all.0, front_all i xs (omega (arith, le)) all.1)

  one_of : (i : ℕ) (xs : List A) (d : A) → i < length xs → AllByRecursion P xs → P (slice_index_or xs i d)
  one_of i [] d lt all = absurd (omega (arith, lt))
  one_of zero (x ∷ xs) d lt all = all.0
  one_of (suc i) (x ∷ xs) d lt all = one_of i xs d (omega (arith, lt)) all.1

next_number : (i : ℕ) → suc i ≡ i + 1
next_number i = omega arith

-- the same is done to each, whatever its place
pub each_mapped : {A : Type 0} (f : A → A) (n : ℕ) (xs : List A) → map_from (λ k x. f x) n xs ≡ map f xs
each_mapped f n [] = refl
each_mapped f n (x ∷ xs) = ap (λ rest. f x ∷ rest) (each_mapped f (n + 1) xs)

-- ---- bands are handed out

-- no handle is set yet
pub none_lent : (vs : List (Option Object)) → AreNull vs → AreLent 0 vs
none_lent vs null = record { within = omega arith; rows = tt; none = null }

-- one handle more is set
pub one_lent : (i : ℕ) (xs : List Slot) (s : Slot) → i < length xs → IsRows s.value → AreLent i (values_of xs) → AreLent (i + 1) (values_of (slice_set xs i s))
one_lent i xs s lt is a =
    let vs = values_of xs in
    let long : length vs ≡ length xs = values_length xs in
    let inside : i < length vs = omega (arith, lt, long) in
    let after : AreLent (suc i) (slice_set vs i s.value) = record {
      within = let same = set_length vs i s.value in omega (arith, inside, same);
      rows = front_set IsRows i vs s.value inside is a.rows;
      none = rest_set IsNull i vs s.value inside a.none;
    } in
    subst (λ (n : ℕ). AreLent n (values_of (slice_set xs i s))) (next_number i) (subst (λ (ws : List (Option Object)). AreLent (suc i) ws) (sym (values_set xs i s)) after)

-- a handle that is set to what it was
pub same_values : (i : ℕ) (xs : List Slot) (s d : Slot) → i < length xs → s.value ≡ (slice_index_or xs i d).value → values_of (slice_set xs i s) ≡ values_of xs
same_values i xs s d lt e =
    values_set xs i s ∙ set_same (values_of xs) i s.value d.value (let long = values_length xs in omega (arith, lt, long)) (e ∙ sym (values_at xs i d))

-- ---- whether handles are null

pub same_length : (xs ys : List Slot) → values_of xs ≡ values_of ys → length xs ≡ length ys
same_length xs ys e = sym (values_length xs) ∙ ap length e ∙ values_length ys

pub is_taken : (v : Option Object) (o : Object) → v ≡ None → v ≡ Some o → ⊥
is_taken v o none some = absurd (cc (sym none ∙ some))

pub null_more : (i : ℕ) (xs : List Slot) (d : Slot) → i < length xs → (slice_index_or xs i d).value ≡ None → AllByRecursion IsNull (take i (values_of xs)) → AllByRecursion IsNull (take (i + 1) (values_of xs))
null_more i xs d lt e all =
    subst (λ (n : ℕ). AllByRecursion IsNull (take n (values_of xs))) (next_number i)
    (front_more IsNull i (values_of xs) d.value (let long = values_length xs in omega (arith, lt, long)) all (values_at xs i d ∙ e))

pub null_all : (i : ℕ) (xs : List Slot) → length xs ≤ i → AllByRecursion IsNull (take i (values_of xs)) → AreNull (values_of xs)
null_all i xs le all = front_all IsNull i (values_of xs) (let long = values_length xs in omega (arith, le, long)) all

pub null_at : (i : ℕ) (xs : List Slot) (d : Slot) → i < length xs → AreNull (values_of xs) → (slice_index_or xs i d).value ≡ None
null_at i xs d lt all = sym (values_at xs i d) ∙ one_of IsNull i (values_of xs) d.value (let long = values_length xs in omega (arith, lt, long)) all
