-- The greatest difference of two bytes at one place.
use Rattle.std.proofs.Common.{◌≡◌, ℕ, zero, suc, ◌+◌, ◌<◌, ◌≤◌, max, List, [], ◌∷◌, length, get_or, take, drop, refl, arith}
use Rattle.std.specs.Int.{abs_diff}
use Rattle.std.proofs.Math.Nat.{le-max_left, le-max_right, max-le}
use Rattle.std.proofs.lemmas.List.{drop_more, get_or-drop, get_or-take, length-take, length-drop}
use Rattle.picture_diff.specs.Difference.{most_apart}

max-turn : (m a r : ℕ) → max m (max a r) ≡ max (max a m) r
max-turn m a r = omega arith

-- two bytes more
pub most-step : (m at : ℕ) (one other : List ℕ) → at < length one → at < length other
    → max m (most_apart (drop at one) (drop at other)) ≡ max (max (abs_diff (get_or one at 0) (get_or other at 0)) m) (most_apart (drop (at + 1) one) (drop (at + 1) other))
most-step m at one other one-long other-long =
    let parts : most_apart (drop at one) (drop at other) ≡ max (abs_diff (get_or one at 0) (get_or other at 0)) (most_apart (drop (at + 1) one) (drop (at + 1) other))
    = rw (drop_more one at 0 one-long, drop_more other at 0 other-long) refl in
    rw parts (max-turn m (abs_diff (get_or one at 0) (get_or other at 0)) (most_apart (drop (at + 1) one) (drop (at + 1) other)))

-- no two bytes are further apart
pub most-within : (one other : List ℕ) (i : ℕ) → length one ≡ length other → abs_diff (get_or one i 0) (get_or other i 0) ≤ most_apart one other
most-within [] [] i e = omega arith
most-within [] (b ∷ ys) i e = absurd (omega (arith, e))
most-within (a ∷ xs) [] i e = absurd (omega (arith, e))
most-within (a ∷ xs) (b ∷ ys) zero e = le-max_left (abs_diff a b) (most_apart xs ys)
most-within (a ∷ xs) (b ∷ ys) (suc i) e = omega (arith, most-within xs ys i (omega (arith, e)), le-max_right (abs_diff a b) (most_apart xs ys))

-- some two are so far apart
pub most-least : (near : ℕ) (one other : List ℕ) → ((i : ℕ) → abs_diff (get_or one i 0) (get_or other i 0) ≤ near) → most_apart one other ≤ near
most-least near [] ys h = omega arith
most-least near (a ∷ xs) [] h = omega arith
most-least near (a ∷ xs) (b ∷ ys) h = max-le (h 0) (most-least near xs ys (λ i. h (suc i)))

-- the same of parts of two lists
pub part-within : (near : ℕ) (one other : List ℕ) (from len i : ℕ) → from + len ≤ length one → from + len ≤ length other
    → most_apart (take len (drop from one)) (take len (drop from other)) ≤ near → i < len → abs_diff (get_or one (from + i) 0) (get_or other (from + i) 0) ≤ near
part-within near one other from len i one-long other-long most lt =
    let long : (xs : List ℕ) → from + len ≤ length xs → length (take len (drop from xs)) ≡ len = λ xs le. omega (arith, length-take len (drop from xs), length-drop from xs) in
    let at : (xs : List ℕ) → get_or (take len (drop from xs)) i 0 ≡ get_or xs (from + i) 0 = λ xs. rw (get_or-take len (drop from xs) i 0 lt) (get_or-drop from xs i 0) in
    let h = most-within (take len (drop from one)) (take len (drop from other)) i (omega (arith, long one one-long, long other other-long)) in
    omega (arith, rw (at one, at other) at h)
