-- A number that is read is spelled as `decimal` and `signed_decimal` write it.
use Rattle.std.proofs.Common.{◌≡◌, ℕ, zero, suc, ◌+◌, ◌*◌, ◌-◌, ◌^◌, ◌<◌, ◌≤◌, ℤ, pos, negsuc, neg_ℤ, eqb-true, Bool, true, false, not, ◌&&◌, ◌==◌, leb, cond, List, [], ◌∷◌, map, drop, length, get_or, slice_index_or, lit<, Ok, Err, refl, ap, sym, ◌∙◌, arith, int_le}
use Rattle.std.specs.List.{list_all}
use Rattle.std.specs.Fmt.{decimal, signed_decimal}
use Rattle.std.specs.Char.{is_ascii_digit, digit_value}
use Rattle.std.specs.Str.{all_ascii_digits}
use Rattle.std.specs.Str.Parse.{digits_value, digits_value_after}
use Rattle.std.proofs.lemmas.Bool.{leb-true, eq-eqb}
use Rattle.std.proofs.lemmas.Bool.Decides.{nat_tests}
use Rattle.std.proofs.lemmas.Str.{digit_value_digit}
use Rattle.std.proofs.lemmas.Str.Parse.{IsNumeralModel, numerals_by_value, tells_all_ascii_digits}
use Rattle.std.proofs.lemmas.Fmt.{decimal-digits_value}
use Rattle.scene_model.specs.Field.{Read, is_digit, is_numeral, is_negative_numeral, value_onto, natural, in_range, number_in, integer, i32_in_range, i32_number, read_all, no_number, out_of_range}
use Rattle.scene_model.specs.Grammar.{Field}
use Rattle.spelling_model.proofs.Read.{bind_ok, if_ok, both, untrue, true_false}

-- the reader's words for digits are the standard library's
same_digits : (xs : List ℕ) → list_all is_digit xs ≡ true → all_ascii_digits xs ≡ true
same_digits [] h = refl
same_digits (x ∷ xs) h = let p = both (is_digit x) (list_all is_digit xs) h in
    let d : is_ascii_digit x ≡ true = p.0 in rw d (same_digits xs p.1)

same_value : (n : ℕ) (xs : List ℕ) → list_all is_digit xs ≡ true → digits_value_after 10 n xs ≡ value_onto n xs
same_value n [] h = refl
same_value n (x ∷ xs) h =
    let p = both (is_digit x) (list_all is_digit xs) h in
    let range : (48 ≤ x) × (x ≤ 57) = let d = p.0 in grind (arith, nat_tests) in
    let v : digit_value x ≡ x - 48 = omega (arith, digit_value_digit x range) in rw v (same_value (n * 10 + (x - 48)) xs p.1)

own : IsNumeralModel (λ ds. all_ascii_digits ds ≡ true) (digits_value 10)
own = numerals_by_value _ tells_all_ascii_digits

spelled : (f : Field) → list_all is_digit f ≡ true → 0 < length f → (get_or f 0 0 ≡ 48 → length f ≡ 1) → value_onto 0 f < 2 ^ 64 → f ≡ decimal (value_onto 0 f)
spelled f all some alone lt = sym (rw (← same_value 0 f all) (decimal-digits_value own f (same_digits f all) some alone (rw (same_value 0 f all) lt)))

-- a numeral is what `decimal` writes of its value
numeral_takes : (f : Field) → is_numeral f ≡ true → value_onto 0 f < 2 ^ 64 → f ≡ decimal (value_onto 0 f)
numeral_takes [] h lt = absurd (cc h)
numeral_takes (b ∷ []) h lt = let all : list_all is_digit (b ∷ []) ≡ true = rw h refl in spelled (b ∷ []) all (omega arith) (λ z. refl) lt
numeral_takes (b ∷ c ∷ f) h lt =
    let p = both (is_digit b && not (b == 48)) (list_all is_digit (c ∷ f)) h in
    let q = both (is_digit b) (not (b == 48)) p.0 in
    let all : list_all is_digit (b ∷ c ∷ f) ≡ true = rw (q.0, p.1) refl in
    spelled (b ∷ c ∷ f) all (omega arith) (λ z. absurd (true_false (sym (eq-eqb b 48 z) ∙ untrue (b == 48) q.1))) lt

pub number_bound : (low high : ℕ) (f : Field) (n : ℕ) → number_in low high f ≡ Ok n → (low ≤ n) × (n ≤ high)
number_bound low high f n e =
    let a = bind_ok (natural f) (in_range low high) n e in
    let c = if_ok (leb low a.0 && leb a.0 high) (Ok a.0) out_of_range n a.2 in
    let w : a.0 ≡ n = cc c.1 in
    let t = both (leb low a.0) (leb a.0 high) c.0 in
    (omega (arith, leb-true low a.0 t.0, w), omega (arith, leb-true a.0 high t.1, w))

pub number_takes : (low high : ℕ) (f : Field) (n : ℕ) → high < 2 ^ 64 → number_in low high f ≡ Ok n → f ≡ decimal n
number_takes low high f n small e =
    let a = bind_ok (natural f) (in_range low high) n e in
    let b = if_ok (is_numeral f) (Ok (value_onto 0 f)) no_number a.0 a.1 in
    let v : value_onto 0 f ≡ a.0 = cc b.1 in
    let c = if_ok (leb low a.0 && leb a.0 high) (Ok a.0) out_of_range n a.2 in
    let w : a.0 ≡ n = cc c.1 in
    let le = leb-true a.0 high (both (leb low a.0) (leb a.0 high) c.0).1 in
    numeral_takes f b.0 (omega (arith, v, le, small)) ∙ ap decimal (v ∙ w)

pub u8_takes : (f : Field) (n : ℕ) → number_in 0 255 f ≡ Ok n → f ≡ decimal n
u8_takes f n e = number_takes 0 255 f n (lit< tt) e

pub u16_takes : (f : Field) (n : ℕ) → number_in 0 65535 f ≡ Ok n → f ≡ decimal n
u16_takes f n e = number_takes 0 65535 f n (lit< tt) e

pub u32_takes : (f : Field) (n : ℕ) → number_in 0 4294967295 f ≡ Ok n → f ≡ decimal n
u32_takes f n e = number_takes 0 4294967295 f n (lit< tt) e

pub u64_takes : (f : Field) (n : ℕ) → number_in 0 (2 ^ 64 - 1) f ≡ Ok n → f ≡ decimal n
u64_takes f n e = number_takes 0 (2 ^ 64 - 1) f n (lit< tt) e

-- ---- signed numbers

pub pos_small : (n : ℕ) → int_le (pos n) (pos 2147483647) ≡ true → n < 2 ^ 64
pos_small n h = let t : leb n 2147483647 ≡ true = h in omega (arith, leb-true n 2147483647 t)

pub neg_small : (n : ℕ) → int_le (negsuc 2147483647) (neg_ℤ (pos n)) ≡ true → n < 2 ^ 64
neg_small zero h = lit< tt
neg_small (suc n) h = let t : leb n 2147483647 ≡ true = h in omega (arith, leb-true n 2147483647 t)

negative_spelled : (n : ℕ) → (n ≡ 0 → ⊥) → 45 ∷ decimal n ≡ signed_decimal (neg_ℤ (pos n))
negative_spelled zero h = absurd (h refl)
negative_spelled (suc n) h = refl

value_grows : (n : ℕ) (f : List ℕ) → n ≤ value_onto n f
value_grows n [] = omega arith
value_grows n (b ∷ f) = let r = value_grows (n * 10 + (b - 48)) f in omega (arith, r)

above_zero : (b : ℕ) (f : List ℕ) → is_digit b ≡ true → (b == 48) ≡ false → value_onto 0 (b ∷ f) ≡ 0 → ⊥
above_zero b f p d z =
    let v = value_grows (0 * 10 + (b - 48)) f in
    let range : (48 ≤ b) × (b ≤ 57) = grind (arith, nat_tests, p) in
    let e : b ≡ 48 = omega (arith, v, range, z) in true_false (sym (eq-eqb b 48 e) ∙ d)

-- the number behind a `-` is not 0
not_zero : (f : Field) → is_numeral f ≡ true → (slice_index_or f 0 48 == 48) ≡ false → value_onto 0 f ≡ 0 → ⊥
not_zero [] h d z = true_false (sym h)
not_zero (b ∷ []) h d z = above_zero b [] h d z
not_zero (b ∷ c ∷ f) h d z =
    above_zero b (c ∷ f) (both (is_digit b) (not (b == 48)) (both (is_digit b && not (b == 48)) (list_all is_digit (c ∷ f)) h).0).0 d z

negative_takes : (f : Field) → is_negative_numeral f ≡ true → int_le (negsuc 2147483647) (neg_ℤ (pos (value_onto 0 (drop 1 f)))) ≡ true → f ≡ signed_decimal (neg_ℤ (pos (value_onto 0 (drop 1 f))))
negative_takes [] h le = absurd (cc h)
negative_takes (b ∷ f) h le =
    let p = both ((b == 45) && is_numeral f) (not (slice_index_or f 0 48 == 48)) h in
    let q = both (b == 45) (is_numeral f) p.0 in
    let minus : b ≡ 45 = eqb-true _ _ q.0 in
    let digits : f ≡ decimal (value_onto 0 f) = numeral_takes f q.1 (neg_small (value_onto 0 f) le) in
    (λ i. minus i ∷ digits i) ∙ negative_spelled (value_onto 0 f) (not_zero f q.1 (untrue (slice_index_or f 0 48 == 48) p.1))

pub in_i32 : (y z : ℤ) → i32_in_range y ≡ Ok z → (y ≡ z) × (int_le (negsuc 2147483647) y ≡ true) × (int_le y (pos 2147483647) ≡ true)
in_i32 y z e =
    let a = if_ok (int_le (negsuc 2147483647) y && int_le y (pos 2147483647)) (Ok y) out_of_range z e in
    let b = both (int_le (negsuc 2147483647) y) (int_le y (pos 2147483647)) a.0 in
    let made : y ≡ z = cc a.1 in (made, b.0, b.1)

pub i32_takes : (f : Field) (z : ℤ) → i32_number f ≡ Ok z → f ≡ signed_decimal z
unfolding i32_number
i32_takes f z e =
    let a = bind_ok (integer f) i32_in_range z e in
    let r = in_i32 a.0 z a.2 in
    by (is_numeral f) refl (is_negative_numeral f) refl a.0 a.1 r.1 r.2 ∙ ap signed_decimal r.0
  where
    by : (t : Bool) → is_numeral f ≡ t → (u : Bool) → is_negative_numeral f ≡ u → (y : ℤ) → cond t (Ok (pos (value_onto 0 f))) (cond u (Ok (neg_ℤ (pos (value_onto 0 (drop 1 f))))) (Err no_number)) ≡ Ok y
        → int_le (negsuc 2147483647) y ≡ true → int_le y (pos 2147483647) ≡ true → f ≡ signed_decimal y
    by true t u h y e low high =
        let made : pos (value_onto 0 f) ≡ y = cc e in
        numeral_takes f t (pos_small (value_onto 0 f) (ap (λ k. int_le k (pos 2147483647)) made ∙ high)) ∙ ap signed_decimal made
    by false t true h y e low high =
        let made : neg_ℤ (pos (value_onto 0 (drop 1 f))) ≡ y = cc e in
        negative_takes f h (ap (int_le (negsuc 2147483647)) made ∙ low) ∙ ap signed_decimal made
    by false t false h y e low high = absurd (cc e)

pub all_takes : {A : Type 0} (read : Field → Read A) (spell : A → Field) → ((f : Field) (x : A) → read f ≡ Ok x → f ≡ spell x) → (fs : List Field) (xs : List A) → read_all read fs ≡ Ok xs → fs ≡ map spell xs
all_takes read spell takes [] xs e = let h : [] ≡ xs = cc e in ap (map spell) h
all_takes read spell takes (f ∷ fs) xs e =
    let a = bind_ok (read f) _ xs e in
    let b = bind_ok (read_all read fs) _ xs a.2 in
    let made : a.0 ∷ b.0 ≡ xs = cc b.2 in
    (λ i. takes f a.0 a.1 i ∷ all_takes read spell takes fs b.0 b.1 i) ∙ ap (map spell) made
