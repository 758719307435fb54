-- Sums over numbers that stand once each.
use Rattle.std.proofs.Common.{◌≡◌, ℕ, zero, suc, ◌+◌, ◌<◌, ◌≤◌, ◌==◌, nat_lt, Bool, true, false, if◌then◌else◌, List, [], ◌∷◌, length, slice_index_or, refl, sym, ap, ◌∙◌, arith, eq-eqb, ne_eqb}
use Rattle.std.specs.Prelude.{sum_by}
use Rattle.std.specs.List.{AllByRecursion}
use Rattle.std.proofs.lemmas.Bool.{ltb-true, lt-ltb}
use Rattle.std.proofs.lemmas.List.Sums.{sum_by-cons}
use Rattle.schedule_model.specs.Held.{count_of}

-- what the elements that are one number add up to, each with a value
abbrev part : ℕ → ℕ → List ℕ → ℕ
part e v [] = 0
part e v (x ∷ xs) = (if x == e then v else 0) + part e v xs

part_none : (e v : ℕ) (xs : List ℕ) → count_of e xs ≡ 0 → part e v xs ≡ 0
part_none e v [] c = refl
part_none e v (x ∷ xs) c = step (x == e) c (part_none e v xs)
  where
    step : (b : Bool) → (if b then 1 else 0) + count_of e xs ≡ 0 → (count_of e xs ≡ 0 → part e v xs ≡ 0) → (if b then v else 0) + part e v xs ≡ 0
    step true q rest = absurd (omega (arith, q))
    step false q rest = let r = rest (omega (arith, q)) in omega (arith, r)

part_once : (e v : ℕ) (xs : List ℕ) → count_of e xs ≡ 1 → part e v xs ≡ v
part_once e v [] c = absurd (omega (arith, c))
part_once e v (x ∷ xs) c = step (x == e) c (part_once e v xs)
  where
    step : (b : Bool) → (if b then 1 else 0) + count_of e xs ≡ 1 → (count_of e xs ≡ 1 → part e v xs ≡ v) → (if b then v else 0) + part e v xs ≡ v
    step true q rest = let r = part_none e v xs (omega (arith, q)) in omega (arith, r)
    step false q rest = let r = rest (omega (arith, q)) in omega (arith, r)

all_within : (many : ℕ) (xs : List ℕ) → ((e : ℕ) → 1 ≤ count_of e xs → e < many) → AllByRecursion (λ x. x < many) xs
all_within many [] h = tt
all_within many (x ∷ xs) h =
    let one : (if x == x then 1 else 0) ≡ suc zero = ap (λ b. if b then 1 else 0) (eq-eqb x x refl) in
    (h x (omega (arith, one)), all_within many xs (λ e c. h e (omega (arith, c))))

once_within : (many e : ℕ) (b : Bool) → nat_lt e many ≡ b → 1 ≤ (if b then 1 else 0) → e < many
once_within many e true is c = ltb-true e many is
once_within many e false is c = absurd (omega (arith, c))

module _ (A : Type 0) (g : A → ℕ) (d : A) where
  -- for each element of a list, its value as often as its place stands among numbers
  abbrev picked : ℕ → List A → List ℕ → ℕ
  picked first [] xs = 0
  picked first (a ∷ rest) xs = part first (g a) xs + picked (first + 1) rest xs

  picked_nothing : (first : ℕ) (all : List A) → picked first all [] ≡ 0
  picked_nothing first [] = refl
  picked_nothing first (a ∷ rest) = let r = picked_nothing (first + 1) rest in omega (arith, r)

  picked_below : (x first : ℕ) (all : List A) (xs : List ℕ) → x < first → picked first all (x ∷ xs) ≡ picked first all xs
  picked_below x first [] xs lt = refl
  picked_below x first (a ∷ rest) xs lt =
      let other : (if x == first then g a else 0) ≡ 0 = ap (λ b. if b then g a else 0) (ne_eqb x first (λ e. omega (arith, lt, e))) in
      let r = picked_below x (first + 1) rest xs (omega (arith, lt)) in
      omega (arith, other, r)

  picked_one : (first i : ℕ) (all : List A) (xs : List ℕ) → i < length all → picked first all ((first + i) ∷ xs) ≡ g (slice_index_or all i d) + picked first all xs
  picked_one first i [] xs lt = absurd (omega (arith, lt))
  picked_one first zero (a ∷ rest) xs lt =
      let z : first + 0 ≡ first = omega arith in
      let own : (if first + 0 == first then g a else 0) ≡ g a = ap (λ b. if b then g a else 0) (eq-eqb (first + 0) first z) in
      let r = picked_below (first + 0) (first + 1) rest xs (omega arith) in
      omega (arith, own, r)
  picked_one first (suc i) (a ∷ rest) xs lt =
      let n : first + suc i ≡ first + 1 + i = omega arith in
      let other : (if first + suc i == first then g a else 0) ≡ 0 = ap (λ b. if b then g a else 0) (ne_eqb (first + suc i) first (λ e. omega (arith, e))) in
      let r : picked (first + 1) rest ((first + suc i) ∷ xs) ≡ g (slice_index_or rest i d) + picked (first + 1) rest xs =
      ap (λ m. picked (first + 1) rest (m ∷ xs)) n ∙ picked_one (first + 1) i rest xs (omega (arith, lt)) in
      omega (arith, other, r)

  picked_all : (all : List A) (xs : List ℕ) → AllByRecursion (λ x. x < length all) xs → sum_by (λ x. g (slice_index_or all x d)) xs ≡ picked 0 all xs
  picked_all all [] h = sym (picked_nothing 0 all)
  picked_all all (x ∷ xs) h =
      let z : 0 + x ≡ x = omega arith in
      sum_by-cons (λ x. g (slice_index_or all x d)) x xs
      ∙ ap (λ n. g (slice_index_or all x d) + n) (picked_all all xs h.1)
      ∙ sym (picked_one 0 x all xs h.0)
      ∙ ap (λ m. picked 0 all (m ∷ xs)) z

  picked_sum : (first : ℕ) (all : List A) (xs : List ℕ) → ((i : ℕ) → i < length all → count_of (first + i) xs ≡ 1) → picked first all xs ≡ sum_by g all
  picked_sum first [] xs h = refl
  picked_sum first (a ∷ rest) xs h =
      let z : first ≡ first + 0 = omega arith in
      let own = part_once first (g a) xs (ap (λ n. count_of n xs) z ∙ h 0 (omega arith)) in
      let later = picked_sum (first + 1) rest xs (λ i lt. (let n : first + 1 + i ≡ first + suc i = omega arith in ap (λ m. count_of m xs) n ∙ h (suc i) (omega (arith, lt)))) in
      (λ j. own j + later j) ∙ sym (sum_by-cons g a rest)

  -- where each place of a list stands once among numbers, and no other number does, the values at these numbers add up to those of the list
  pub sum_once : (all : List A) (xs : List ℕ) → ((e : ℕ) → count_of e xs ≡ (if nat_lt e (length all) then 1 else 0)) → sum_by (λ x. g (slice_index_or all x d)) xs ≡ sum_by g all
  sum_once all xs once =
      picked_all all xs (all_within (length all) xs (λ e c. once_within (length all) e (nat_lt e (length all)) refl (let is = once e in omega (arith, is, c))))
      ∙ picked_sum 0 all xs (λ i lt. (let z : 0 + i ≡ i = omega arith in ap (λ n. count_of n xs) z ∙ once i ∙ ap (λ b. if b then 1 else 0) (lt-ltb i (length all) lt)))
