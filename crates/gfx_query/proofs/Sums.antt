-- Sums of queries that grow.
use Rattle.std.proofs.Common.{◌≡◌, ℕ, zero, suc, ◌+◌, ◌≤◌, ◌^◌, [], ◌∷◌, Option, Some, None, refl, arith}
use Rattle.std.specs.Prelude.{slice_set, unwrap_or, replicate, length}
use Rattle.gfx_query.specs.Queries.{Results, result_of, with_count, no_results}
use Rattle.gfx_query.specs.SeenFrames.{AreAtMost}

set_most : (m : ℕ) (sums : Results) (q : ℕ) (n : ℕ) → AreAtMost m sums → n ≤ m → AreAtMost m (slice_set sums q (Some n))
set_most m [] q n h le k = h k
set_most m (x ∷ xs) zero n h le zero = le
set_most m (x ∷ xs) zero n h le (suc k) = h (suc k)
set_most m (x ∷ xs) (suc q) n h le zero = h zero
set_most m (x ∷ xs) (suc q) n h le (suc k) = set_most m xs q n (λ j. h (suc j)) le k

-- a count more
pub count_most : (m count : ℕ) (q : Option ℕ) (sums : Results) → count ≤ 2 ^ 62 → AreAtMost m sums → AreAtMost (m + 2 ^ 62) (with_count q count sums)
count_most m count None sums le h = λ k. let b = h k in omega (arith, b)
count_most m count (Some q) sums le h =
    let b = h q in
    set_most (m + 2 ^ 62) sums q (unwrap_or (result_of sums q) 0 + count) (λ k. let a = h k in omega (arith, a)) (omega (arith, b, le))

-- no sum is 0
pub none_most : (n q : ℕ) → unwrap_or (result_of (replicate n None) q) 0 ≡ 0
none_most zero q = refl
none_most (suc n) zero = refl
none_most (suc n) (suc q) = none_most n q

pub none_long : length no_results ≡ 64
none_long = refl
