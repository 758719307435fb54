-- Parts of lists, cut to what is there.
use Rattle.std.proofs.Common.{◌≡◌, ℕ, ◌≤◌, ◌<◌, ◌⊎◌, inl, inr, List, length, take, drop, sym, ap, ◌∙◌, arith}
use Rattle.std.specs.Prelude.{min}
use Rattle.std.proofs.lemmas.Bool.{cases_lt}
use Rattle.std.proofs.lemmas.List.{take_min, drop_all}
use Rattle.draw_encoder.specs.Seen.{part}

drop_min : {A : Type 0} (n : ℕ) (xs : List A) → drop (min n (length xs)) xs ≡ drop n xs
drop_min n xs = go (cases_lt n (length xs))
  where
    go : (n < length xs) ⊎ (length xs ≤ n) → drop (min n (length xs)) xs ≡ drop n xs
    go (inl lt) = let e : min n (length xs) ≡ n = omega (arith, lt) in ap (λ k. drop k xs) e
    go (inr le) = drop_all (min n (length xs)) xs (omega (arith, le)) ∙ sym (drop_all n xs le)

-- a part of what is left behind a place, both cut to what is there
pub part_cut : {A : Type 0} (xs rest result : List A) (at count : ℕ) → rest ≡ drop (min at (length xs)) xs → result ≡ take (min count (length rest)) rest → result ≡ part xs at count
part_cut xs rest result at count e f = f ∙ take_min count rest ∙ ap (take count) (e ∙ drop_min at xs)
