-- What `decimal` writes is read as the number again, and has no byte that is no digit.
use Rattle.std.proofs.Common.{◌≡◌, ℕ, zero, suc, ◌+◌, ◌*◌, ◌-◌, ◌^◌, ◌<◌, ◌≤◌, eqb-true, Bool, true, false, not, ◌&&◌, ◌==◌, List, [], ◌∷◌, length, get_or, lit<, refl, ap, sym, ◌∙◌, arith}
use Rattle.std.specs.List.{list_all}
use Rattle.std.specs.Fmt.{decimal}
use Rattle.std.specs.Char.{is_ascii_digit, digit_value}
use Rattle.std.specs.Str.{all_ascii_digits}
use Rattle.std.specs.Str.Parse.{digits_value, digits_value_after}
use Rattle.std.proofs.lemmas.Bool.Decides.{nat_tests}
use Rattle.std.proofs.lemmas.Str.{digit_value_digit}
use Rattle.std.proofs.lemmas.Str.Parse.{IsNumeralModel, numerals_by_value, tells_all_ascii_digits}
use Rattle.std.proofs.lemmas.Fmt.{decimal_digit, decimal_nonempty, first_decimal, digits_decimal, digits_value-decimal}
use Rattle.scene_model.specs.Field.{is_digit, is_numeral, value_onto}
use Rattle.scene_model.proofs.SplitLaws.{is_free_of}

own : IsNumeralModel (λ ds. all_ascii_digits ds ≡ true) (digits_value 10)
own = numerals_by_value _ tells_all_ascii_digits

both_are : (a b : Bool) → (a && b) ≡ true → (a ≡ true) × (b ≡ true)
both_are true b h = (refl, h)
both_are false b h = absurd (cc h)

-- the standard library's words for digits are the reader's
digits_same : (xs : List ℕ) → all_ascii_digits xs ≡ true → list_all is_digit xs ≡ true
digits_same [] h = refl
digits_same (x ∷ xs) h = let p = both_are (is_ascii_digit x) (all_ascii_digits xs) h in
    let d : is_digit x ≡ true = p.0 in rw d (digits_same xs p.1)

value_same : (n : ℕ) (xs : List ℕ) → list_all is_digit xs ≡ true → digits_value_after 10 n xs ≡ value_onto n xs
value_same n [] h = refl
value_same n (x ∷ xs) h =
    let p = both_are (is_digit x) (list_all is_digit xs) h in
    let range : (48 ≤ x) × (x ≤ 57) = let d = p.0 in grind (arith, nat_tests) in
    let v : digit_value x ≡ x - 48 = omega (arith, digit_value_digit x range) in rw v (value_same (n * 10 + (x - 48)) xs p.1)

pub decimal-digits : (n : ℕ) → n < 2 ^ 64 → list_all is_digit (decimal n) ≡ true
decimal-digits n small = digits_same (decimal n) (digits_decimal own n small)

pub decimal-value : (n : ℕ) → n < 2 ^ 64 → value_onto 0 (decimal n) ≡ n
decimal-value n small = sym (value_same 0 (decimal n) (decimal-digits n small)) ∙ digits_value-decimal own n small

not_zero_first : (b : ℕ) → 48 < b → not (b == 48) ≡ true
not_zero_first b h = grind (arith, nat_tests, h)

numeral_of : (ds : List ℕ) → list_all is_digit ds ≡ true → 0 < length ds → 48 < get_or ds 0 0 → is_numeral ds ≡ true
numeral_of [] all some first = absurd (omega (arith, some))
numeral_of (b ∷ []) all some first = (both_are (is_digit b) true all).0
numeral_of (b ∷ c ∷ bs) all some first =
    let p = both_are (is_digit b) (list_all is_digit (c ∷ bs)) all in
    rw (p.0, not_zero_first b first) p.1

pub decimal-numeral : (n : ℕ) → n < 2 ^ 64 → is_numeral (decimal n) ≡ true
decimal-numeral zero small = ap is_numeral (decimal_digit 0 (lit< tt))
decimal-numeral (suc n) small = numeral_of (decimal (suc n)) (decimal-digits (suc n) small) (decimal_nonempty (suc n) small) (first_decimal (suc n) (omega arith) small)

no_digit : (c b : ℕ) → is_digit c ≡ false → is_digit b ≡ true → not (b == c) ≡ true
no_digit c b h k = by (b == c) refl
  where
    by : (t : Bool) → (b == c) ≡ t → not t ≡ true
    by true e = absurd (cc (sym k ∙ ap is_digit (eqb-true b c e) ∙ h))
    by false e = refl

digits_free : (c : ℕ) (xs : List ℕ) → is_digit c ≡ false → list_all is_digit xs ≡ true → is_free_of c xs ≡ true
digits_free c [] h k = refl
digits_free c (x ∷ xs) h k = let p = both_are (is_digit x) (list_all is_digit xs) k in rw (no_digit c x h p.0) (digits_free c xs h p.1)

pub decimal-free : (c n : ℕ) → is_digit c ≡ false → n < 2 ^ 64 → is_free_of c (decimal n) ≡ true
decimal-free c n h small = digits_free c (decimal n) h (decimal-digits n small)
