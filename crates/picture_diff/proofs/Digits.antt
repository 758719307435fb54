-- Decimal digits: what is read of them, and what `decimal` writes.
use Rattle.std.proofs.Common.{◌≡◌, ℕ, zero, suc, ◌+◌, ◌*◌, ◌-◌, ◌^◌, ◌<◌, ◌≤◌, eqb-true, eq-eqb, Bool, true, false, cond, not, leb, ◌&&◌, ◌==◌, List, [], ◌∷◌, ◌++◌, length, get_or, drop, lit<, Option, Some, None, refl, ap, sym, subst, ◌∙◌, arith}
use Rattle.std.specs.List.{list_all, prefix_len}
use Rattle.std.specs.Fmt.{decimal}
use Rattle.std.specs.Char.{is_ascii_digit, digit_value}
use Rattle.std.specs.Str.{all_ascii_digits}
use Rattle.std.specs.Str.Parse.{digits_value, digits_value_after}
use Rattle.std.proofs.lemmas.Bool.{leb-true, le-leb, both_ways}
use Rattle.std.proofs.lemmas.Bool.Decides.{nat_tests}
use Rattle.std.proofs.lemmas.List.{drop_more}
use Rattle.std.proofs.lemmas.Option.{same_Some, none-some}
use Rattle.std.proofs.lemmas.Str.{digit_value_digit}
use Rattle.std.proofs.lemmas.Str.Parse.{IsNumeralModel, numerals_by_value, tells_all_ascii_digits}
use Rattle.std.proofs.lemmas.Fmt.{decimal_digit, decimal_nonempty, first_decimal, digits_decimal, digits_value-decimal, decimal-digits_value}
use Rattle.picture_diff.specs.Numbers.{is_digit, value_onto, is_numeral, number}

own : IsNumeralModel (λ ds. all_ascii_digits ds ≡ true) (digits_value 10)
own = numerals_by_value _ tells_all_ascii_digits

pub both_are : (a b : Bool) → (a && b) ≡ true → (a ≡ true) × (b ≡ true)
both_are true b h = (refl, h)
both_are false b h = absurd (cc h)

-- the standard library's words for digits are the reader's
digits_same : (xs : List ℕ) → all_ascii_digits xs ≡ true → list_all is_digit xs ≡ true
digits_same [] h = refl
digits_same (x ∷ xs) h =
    let p = both_are (is_ascii_digit x) (all_ascii_digits xs) h in
    let d : is_digit x ≡ true = p.0 in rw d (digits_same xs p.1)

same_digits : (xs : List ℕ) → list_all is_digit xs ≡ true → all_ascii_digits xs ≡ true
same_digits [] h = refl
same_digits (x ∷ xs) h =
    let p = both_are (is_digit x) (list_all is_digit xs) h in
    let d : is_ascii_digit x ≡ true = p.0 in rw d (same_digits xs p.1)

value_same : (n : ℕ) (xs : List ℕ) → list_all is_digit xs ≡ true → digits_value_after 10 n xs ≡ value_onto n xs
value_same n [] h = refl
value_same n (x ∷ xs) h =
    let p = both_are (is_digit x) (list_all is_digit xs) h in
    let range : (48 ≤ x) × (x ≤ 57) = let d = p.0 in grind (arith, nat_tests) in
    let v : digit_value x ≡ x - 48 = omega (arith, digit_value_digit x range) in rw v (value_same (n * 10 + (x - 48)) xs p.1)

pub decimal-digits : (n : ℕ) → n < 2 ^ 64 → list_all is_digit (decimal n) ≡ true
decimal-digits n small = digits_same (decimal n) (digits_decimal own n small)

decimal-value : (n : ℕ) → n < 2 ^ 64 → value_onto 0 (decimal n) ≡ n
decimal-value n small = sym (value_same 0 (decimal n) (decimal-digits n small)) ∙ digits_value-decimal own n small

not_zero_first : (b : ℕ) → 48 < b → not (b == 48) ≡ true
not_zero_first b h = grind (arith, nat_tests, h)

numeral_of : (ds : List ℕ) → list_all is_digit ds ≡ true → 0 < length ds → 48 < get_or ds 0 0 → is_numeral ds ≡ true
numeral_of [] all some first = absurd (omega (arith, some))
numeral_of (b ∷ []) all some first = (both_are (is_digit b) true all).0
numeral_of (b ∷ c ∷ bs) all some first =
    let p = both_are (is_digit b) (list_all is_digit (c ∷ bs)) all in
    rw (p.0, not_zero_first b first) p.1

decimal-numeral : (n : ℕ) → n < 2 ^ 64 → is_numeral (decimal n) ≡ true
decimal-numeral zero small = ap is_numeral (decimal_digit 0 (lit< tt))
decimal-numeral (suc n) small = numeral_of (decimal (suc n)) (decimal-digits (suc n) small) (decimal_nonempty (suc n) small) (first_decimal (suc n) (omega arith) small)

spelled : (f : List ℕ) → list_all is_digit f ≡ true → 0 < length f → (get_or f 0 0 ≡ 48 → length f ≡ 1) → value_onto 0 f < 2 ^ 64 → f ≡ decimal (value_onto 0 f)
spelled f all some alone lt = sym (rw (← value_same 0 f all) (decimal-digits_value own f (same_digits f all) some alone (rw (value_same 0 f all) lt)))

not_first : (b : ℕ) → not (b == 48) ≡ true → b ≡ 48 → ⊥
not_first b h e = absurd (cc (sym h ∙ ap not (eq-eqb b 48 e)))

-- a numeral is what `decimal` writes of its value
numeral_takes : (f : List ℕ) → is_numeral f ≡ true → value_onto 0 f < 2 ^ 64 → f ≡ decimal (value_onto 0 f)
numeral_takes [] h lt = absurd (cc h)
numeral_takes (b ∷ []) h lt = let all : list_all is_digit (b ∷ []) ≡ true = rw h refl in spelled (b ∷ []) all (omega arith) (λ z. refl) lt
numeral_takes (b ∷ c ∷ f) h lt =
    let p = both_are (is_digit b) (not (b == 48) && list_all is_digit (c ∷ f)) h in
    let q = both_are (not (b == 48)) (list_all is_digit (c ∷ f)) p.1 in
    let all : list_all is_digit (b ∷ c ∷ f) ≡ true = rw (p.0, q.1) refl in
    spelled (b ∷ c ∷ f) all (omega arith) (λ z. absurd (not_first b q.0 z)) lt

pub if_some : {A : Type 0} (b : Bool) (o : Option A) (y : A) → cond b o None ≡ Some y → (b ≡ true) × (o ≡ Some y)
if_some true o y e = (refl, e)
if_some false o y e = absurd (none-some y e)

pub number_takes : (most : ℕ) (ds : List ℕ) (n : ℕ) → most < 2 ^ 64 → number most ds ≡ Some n → (ds ≡ decimal n) × (n ≤ most)
unfolding number
number_takes most ds n small e =
    let a = if_some (is_numeral ds) (cond (leb (value_onto 0 ds) most) (Some (value_onto 0 ds)) None) n e in
    let b = if_some (leb (value_onto 0 ds) most) (Some (value_onto 0 ds)) n a.1 in
    let le : value_onto 0 ds ≤ most = leb-true _ _ b.0 in
    let is : value_onto 0 ds ≡ n = same_Some _ _ b.1 in
    (numeral_takes ds a.0 (omega (arith, le)) ∙ ap decimal is, omega (arith, le, is))

pub number_again : (most n : ℕ) → most < 2 ^ 64 → n ≤ most → number most (decimal n) ≡ Some n
unfolding number
number_again most n small le = rw (decimal-numeral n (omega arith), decimal-value n (omega arith), le-leb n most le) refl

-- ---- digits at the front

pub prefix-step : (xs : List ℕ) (i : ℕ) → i < length xs → is_digit (get_or xs i 0) ≡ true → prefix_len is_digit (drop i xs) ≡ 1 + prefix_len is_digit (drop (i + 1) xs)
prefix-step xs i lt h = rw (drop_more xs i 0 lt, h) refl

pub prefix-all : (ds : List ℕ) (e : ℕ) (rest : List ℕ) → list_all is_digit ds ≡ true → is_digit e ≡ false → prefix_len is_digit (ds ++ e ∷ rest) ≡ length ds
prefix-all [] e rest all no_digit = rw no_digit refl
prefix-all (d ∷ ds) e rest all no_digit =
    let p = both_are (is_digit d) (list_all is_digit ds) all in
    let more = prefix-all ds e rest p.1 no_digit in
    rw p.0 (omega (arith, more))

-- ---- values

-- the value of more digits is not less
value_grows : (n : ℕ) (xs : List ℕ) → n ≤ value_onto n xs
value_grows n [] = omega arith
value_grows n (x ∷ xs) = let h = value_grows (n * 10 + (x - 48)) xs in omega arith

pub above : (high v : ℕ) (xs : List ℕ) (i w : ℕ) → i < length xs → high < v * 10 + (get_or xs i 0 - 48) → value_onto v (drop i xs) ≡ w → high < w
above high v [] i w lt h e = absurd (omega arith)
above high v (x ∷ xs) zero w lt h e = let g = value_grows (v * 10 + (x - 48)) xs in omega arith
above high v (x ∷ xs) (suc i) w lt h e = above high v xs i w (omega arith) h e
