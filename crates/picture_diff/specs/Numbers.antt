-- Numbers that are spelled by decimal digits.
use Rattle.std.specs.Prelude.{ℕ, ◌+◌, ◌-◌, ◌*◌, Bool, false, not, ◌&&◌, ◌==◌, nat_le, if◌then◌else◌, List, [], ◌∷◌, Option, Some, None}
use Rattle.std.specs.List.{list_all}

-- a decimal digit
abbrev pub is_digit : ℕ → Bool
is_digit b = nat_le 48 b && nat_le b 57

-- the number that decimal digits write behind a number
abbrev pub value_onto : ℕ → List ℕ → ℕ
value_onto n [] = n
value_onto n (b ∷ bytes) = value_onto (n * 10 + (b - 48)) bytes

-- decimal digits without a leading zero
abbrev pub is_numeral : List ℕ → Bool
is_numeral [] = false
is_numeral (b ∷ []) = is_digit b
is_numeral (b ∷ c ∷ bytes) = is_digit b && (not (b == 48) && list_all is_digit (c ∷ bytes))

-- the number that bytes spell, where it is no more than this
unfoldable pub number : (most : ℕ) → List ℕ → Option ℕ
number most bytes = if is_numeral bytes then (if nat_le (value_onto 0 bytes) most then Some (value_onto 0 bytes) else None) else None
