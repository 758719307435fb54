-- The values of digits.
use Rattle.std.proofs.Common.{◌≡◌, ℕ, zero, suc, ◌+◌, ◌<◌, ◌≤◌, ◌*◌, ◌-◌, List, [], ◌∷◌, length, drop, get_or, arith}
use Rattle.scene_model.specs.Field.{value_onto}

-- the value of more digits is not less
value_grows : (n : ℕ) (xs : List ℕ) → n ≤ value_onto n xs
value_grows n [] = omega arith
value_grows n (x ∷ xs) = let h = value_grows (n * 10 + (x - 48)) xs in omega arith

-- digits whose front is above a bound are above it
pub above : (high v : ℕ) (xs : List ℕ) (i w : ℕ) → i < length xs → high < v * 10 + (get_or xs i 0 - 48) → value_onto v (drop i xs) ≡ w → high < w
above high v [] i w lt h e = absurd (omega arith)
above high v (x ∷ xs) zero w lt h e = let g = value_grows (v * 10 + (x - 48)) xs in omega arith
above high v (x ∷ xs) (suc i) w lt h e = above high v xs i w (omega arith) h e
