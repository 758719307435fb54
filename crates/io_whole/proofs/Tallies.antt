-- Numbers and sums of pieces that are put one after another.
use Rattle.std.proofs.Common.{◌≡◌, ◌<◌, ℕ, zero, suc, ◌+◌, ◌%◌, ◌^◌, List, [], ◌∷◌, ◌++◌, length, take, drop, Option, Some, None, refl, sym, ap, ◌∙◌, arith, length-append}
use Rattle.std.specs.Prelude.{sum}
use Rattle.std.proofs.Math.Nat.{mod-add-mod}
use Rattle.std.proofs.Math.Seq.{take-add}
use Rattle.std.proofs.lemmas.List.Sums.{sum_by-append}
use Rattle.io_edge.specs.Edge.{counted}

sum_both : (a b : List ℕ) → sum (a ++ b) ≡ sum a + sum b
sum_both a b = sum_by-append (λ n. n) a b

added_both : (n m a b c : ℕ) → c ≡ a + b → ((n + a) % m + b) % m ≡ (n + c) % m
added_both n m a b c e = mod-add-mod (n + a) m b ∙ ap (λ x. x % m) (omega (arith, e))

-- one text behind another
pub counted_both : (t : Option (ℕ × ℕ)) (a b : List ℕ) → counted (counted t a) b ≡ counted t (a ++ b)
counted_both None a b = refl
counted_both (Some told) a b =
    let many = added_both told.0 (2 ^ 64) (length a) (length b) (length (a ++ b)) (length-append a b) in
    let much = added_both told.1 (2 ^ 32) (sum a) (sum b) (sum (a ++ b)) (sum_both a b) in
    λ i. Some (many i, much i)

first : (n : ℕ) → n ≡ 0 + n
first n = omega arith

-- one piece more
pub counted_more : (old mid new : Option (ℕ × ℕ)) (text piece : List ℕ) (at n : ℕ) → (at ≡ 0 → mid ≡ old) → (0 < at → mid ≡ counted old (take at text)) → new ≡ counted mid piece → piece ≡ take n (drop at text)
    → new ≡ counted old (take (at + n) text)
counted_more old mid new text piece zero n none some e is = e ∙ ap (λ m. counted m piece) (none refl) ∙ ap (counted old) is ∙ ap (λ m. counted old (take m text)) (first n)
counted_more old mid new text piece (suc k) n none some e is =
    e ∙ ap (λ m. counted m piece) (some (omega arith)) ∙ counted_both old (take (suc k) text) piece
    ∙ ap (λ p. counted old (take (suc k) text ++ p)) is ∙ ap (counted old) (sym (take-add (suc k) n text))

take_and_rest : {A : Type 0} (n : ℕ) (xs : List A) → take n xs ++ drop n xs ≡ xs
take_and_rest zero xs = refl
take_and_rest (suc n) [] = refl
take_and_rest (suc n) (x ∷ xs) = ap (λ l. x ∷ l) (take_and_rest n xs)

-- what is left behind a piece
pub counted_rest : (old mid new : Option (ℕ × ℕ)) (text rest : List ℕ) (n : ℕ) → mid ≡ counted old (take n text) → rest ≡ drop n text → new ≡ counted mid rest → new ≡ counted old text
counted_rest old mid new text rest n before is e =
    e ∙ ap (λ m. counted m rest) before ∙ counted_both old (take n text) rest ∙ ap (λ r. counted old (take n text ++ r)) is ∙ ap (counted old) (take_and_rest n text)
