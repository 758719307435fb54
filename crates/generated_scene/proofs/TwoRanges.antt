-- What is made of the numbers of a range, in two parts.
use Rattle.std.proofs.Common.{ℕ, zero, suc, ◌≡◌, ◌+◌, List, [], ◌∷◌, ◌++◌, map, ap, sym, refl, ◌∙◌, append-nil, append_assoc, arith}
use Rattle.std.specs.List.{range_with_len}
use Rattle.std.proofs.lemmas.List.FromFn.{map-range_with_len_more}

pub mapped_in_two : {X : Type 0} (f : ℕ → X) (a n m j : ℕ) → a + n ≡ j → map f (range_with_len a (n + m)) ≡ map f (range_with_len a n) ++ map f (range_with_len j m)
mapped_in_two f a n zero j e = ap (λ k. map f (range_with_len a k)) (omega arith) ∙ sym (append-nil (map f (range_with_len a n)))
mapped_in_two f a n (suc m) j e =
    let last = a + (n + m) in
    let longer : n + suc m ≡ n + m + 1 = omega arith in
    let more : m + 1 ≡ suc m = omega arith in
    let there : j + m ≡ a + (n + m) = omega (arith, e) in
    ap (λ k. map f (range_with_len a k)) longer
    ∙ map-range_with_len_more f a (n + m) last refl
    ∙ ap (λ xs. xs ++ f last ∷ []) (mapped_in_two f a n m j e)
    ∙ append_assoc (map f (range_with_len a n)) (map f (range_with_len j m)) (f last ∷ [])
    ∙ ap (λ zs. map f (range_with_len a n) ++ zs) (sym (map-range_with_len_more f j m last there) ∙ ap (λ k. map f (range_with_len j k)) more)
