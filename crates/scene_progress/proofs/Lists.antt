-- The first elements of lists.
use Rattle.std.proofs.Common.{◌≡◌, ℕ, zero, suc, ◌+◌, ◌≤◌, List, [], ◌∷◌, ◌++◌, map, length, take, Some, slice_get, refl, ap, arith}
use Rattle.std.proofs.lemmas.List.{length-take}

pub add_one : (k : ℕ) → k + 1 ≡ suc k
add_one k = omega arith

pub none_before : (k : ℕ) → 0 + k ≡ k
none_before k = omega arith

pub take_none : {A : Type 0} (n : ℕ) → take {A = A} n [] ≡ []
take_none zero = refl
take_none (suc n) = refl

pub take_few : {A : Type 0} (n : ℕ) (xs : List A) → length (take n xs) ≤ n
take_few n xs = let e = length-take n xs in omega (arith, e)

-- with the element that is read behind them the first elements are one more
pub map_next : {A B : Type 0} (g : A → B) (xs : List A) (k : ℕ) (x : A) → slice_get xs k ≡ Some x → map g (take (suc k) xs) ≡ map g (take k xs) ++ g x ∷ []
map_next g [] k x e = absurd cc
map_next g (y ∷ xs) zero x e = let same : y ≡ x = cc e in ap (λ z. g z ∷ []) same
map_next g (y ∷ xs) (suc k) x e = ap (λ zs. g y ∷ zs) (map_next g xs k x e)
