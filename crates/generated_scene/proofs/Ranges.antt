-- Properties of all that is made of the numbers of a range.
use Rattle.std.proofs.Common.{ℕ, zero, suc, ◌+◌, ◌*◌, ◌≤◌, ◌<◌, Bool, true, false, cond, List, [], ◌∷◌, ◌++◌, length, map, filter, flat_map, length-append, arith}
use Rattle.std.specs.List.{AllByRecursion, range_with_len}

pub all_both : {X : Type 0} (P : X → Type 0) (xs ys : List X) → AllByRecursion P xs → AllByRecursion P ys → AllByRecursion P (xs ++ ys)
all_both P [] ys h k = k
all_both P (x ∷ xs) ys h k = (h.0, all_both P xs ys h.1 k)

-- what is made of each number
pub all_mapped : {X : Type 0} (P : X → Type 0) (g : ℕ → X) (a n : ℕ) → ((k : ℕ) → k < a + n → P (g k)) → AllByRecursion P (map g (range_with_len a n))
all_mapped P g a zero h = tt
all_mapped P g a (suc n) h = (h a (omega arith), all_mapped P g (a + 1) n (λ k lt. h k (omega (arith, lt))))

module _ {X : Type 0} (g : ℕ → List X) (p : ℕ → Bool) where
  -- the lists that are made of some of the numbers
  pub all_picked : (P : X → Type 0) (a n : ℕ) → ((k : ℕ) → k < a + n → AllByRecursion P (g k)) → AllByRecursion P (flat_map g (filter p (range_with_len a n)))
  all_picked P a zero h = tt
  all_picked P a (suc n) h = by (p a) (all_picked P (a + 1) n (λ k lt. h k (omega (arith, lt))))
    where
      rest : List ℕ
      rest = filter p (range_with_len (a + 1) n)

      by : (t : Bool) → AllByRecursion P (flat_map g rest) → AllByRecursion P (flat_map g (cond t (a ∷ rest) rest))
      by true k = all_both P (g a) (flat_map g rest) (h a (omega arith)) k
      by false k = k

  -- how many elements they have, where each has three at most
  pub picked_length : (a n : ℕ) → ((k : ℕ) → length (g k) ≤ 3) → length (flat_map g (filter p (range_with_len a n))) ≤ 3 * n
  picked_length a zero h = omega arith
  picked_length a (suc n) h = by (p a) (picked_length (a + 1) n h)
    where
      rest : List ℕ
      rest = filter p (range_with_len (a + 1) n)

      by : (t : Bool) → length (flat_map g rest) ≤ 3 * n → length (flat_map g (cond t (a ∷ rest) rest)) ≤ 3 * suc n
      by true k = let own = h a in let whole = length-append (g a) (flat_map g rest) in omega (arith, k, own, whole)
      by false k = omega (arith, k)
