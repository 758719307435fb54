-- What is known of a reading that succeeds: its steps succeed, its tests hold, its fields are there.
use Rattle.std.proofs.Common.{◌≡◌, ℕ, ◌+◌, ◌≤◌, eqb-true, leb-true, Bool, true, false, not, ◌&&◌, ◌==◌, leb, cond, List, [], ◌∷◌, ◌++◌, map, drop, length, Ok, Err, refl, subst, sym, ◌∙◌, arith, append_assoc}
use Rattle.std.specs.List.{range_with_len}
use Rattle.std.proofs.lemmas.List.{length-append}
use Rattle.scene_model.specs.Field.{Read, ◌>>=◌, wrong_field_count}
use Rattle.scene_model.specs.Grammar.{Field, field, unless, has_count, has_count_from}

pub bind_ok : {A B : Type 0} (r : Read A) (f : A → Read B) (y : B) → (r >>= f) ≡ Ok y → (x : A) × (r ≡ Ok x) × (f x ≡ Ok y)
bind_ok (Ok x) f y e = (x, refl, e)
bind_ok (Err c) f y e = absurd (cc e)

pub if_ok : {A : Type 0} (b : Bool) (x : Read A) (c : ℕ) (y : A) → cond b x (Err c) ≡ Ok y → (b ≡ true) × (x ≡ Ok y)
if_ok true x c y e = (refl, e)
if_ok false x c y e = absurd (cc e)

pub same_ok : {A : Type 0} {x y : A} → ◌≡◌ {A = Read A} (Ok x) (Ok y) → x ≡ y
same_ok e = cc e

pub unless_ok : (b : Bool) (c : ℕ) (y : Bool) → unless b c ≡ Ok y → b ≡ true
unless_ok true c y e = refl
unless_ok false c y e = absurd (cc e)

pub both : (a b : Bool) → (a && b) ≡ true → (a ≡ true) × (b ≡ true)
both true b h = (refl, h)
both false b h = absurd (cc h)

pub untrue : (t : Bool) → not t ≡ true → t ≡ false
untrue true e = absurd (cc e)
untrue false e = refl

pub true_false : true ≡ false → ⊥
true_false e = absurd (cc e)

-- ---- the fields of a line

pub field_there : (front : List Field) (f : Field) (fs : List Field) → field (front ++ f ∷ fs) (length front) ≡ f
field_there [] f fs = refl
field_there (x ∷ front) f fs = field_there front f fs

listed_from : (front fs : List Field) → fs ≡ map (field (front ++ fs)) (range_with_len (length front) (length fs))
listed_from front [] = refl
listed_from front (f ∷ fs) =
    let r = listed_from (front ++ f ∷ []) fs in
    let n : length (front ++ f ∷ []) ≡ length front + 1 = length-append front (f ∷ []) in
    let w : (front ++ f ∷ []) ++ fs ≡ front ++ f ∷ fs = append_assoc front (f ∷ []) fs in
    let r2 : fs ≡ map (field (front ++ f ∷ fs)) (range_with_len (length front + 1) (length fs)) = r ∙ (λ i. map (field (w i)) (range_with_len (n i) (length fs))) in
    let h : f ≡ field (front ++ f ∷ fs) (length front) = sym (field_there front f fs) in
    λ i. h i ∷ r2 i

-- a line has the fields that it has
pub listed : (n : ℕ) (fs : List Field) → length fs ≡ n → fs ≡ map (field fs) (range_with_len 0 n)
listed n fs h = subst (λ k. fs ≡ map (field fs) (range_with_len 0 k)) h (listed_from [] fs)

pub count_length : (n : ℕ) (fs : List Field) (b : Bool) → has_count n fs ≡ Ok b → length fs ≡ n
count_length n fs b e = eqb-true _ _ (unless_ok (length fs == n) wrong_field_count b e)

pub count_ok : (n : ℕ) (fs : List Field) (b : Bool) → has_count n fs ≡ Ok b → fs ≡ map (field fs) (range_with_len 0 n)
count_ok n fs b e = listed n fs (count_length n fs b e)

pub count_from_ok : (low high : ℕ) (fs : List Field) (b : Bool) → has_count_from low high fs ≡ Ok b → low ≤ length fs
count_from_ok low high fs b e = leb-true low (length fs) (both (leb low (length fs)) (leb (length fs) high) (unless_ok (leb low (length fs) && leb (length fs) high) wrong_field_count b e)).0

pub first_one : (fs : List Field) → 1 ≤ length fs → fs ≡ field fs 0 ∷ drop 1 fs
first_one [] h = absurd (omega (arith, h))
first_one (a ∷ fs) h = refl

pub first_two : (fs : List Field) → 2 ≤ length fs → fs ≡ field fs 0 ∷ field fs 1 ∷ drop 2 fs
first_two [] h = absurd (omega (arith, h))
first_two (a ∷ []) h = absurd (omega (arith, h))
first_two (a ∷ b ∷ fs) h = refl

pub first_three : (fs : List Field) → 3 ≤ length fs → fs ≡ field fs 0 ∷ field fs 1 ∷ field fs 2 ∷ drop 3 fs
first_three [] h = absurd (omega (arith, h))
first_three (a ∷ []) h = absurd (omega (arith, h))
first_three (a ∷ b ∷ []) h = absurd (omega (arith, h))
first_three (a ∷ b ∷ c ∷ fs) h = refl
