-- Digits of sixteen as the code tests and reads them.
use Rattle.std.specs.Prelude.{ℕ, ◌+◌, ◌*◌, ◌%◌, nat_le, Bool, true, false, ◌&&◌, ◌||◌, if◌then◌else◌, List, [], ◌∷◌}

-- 0 to 9, a to f
abbrev pub is_hex : ℕ → Bool
is_hex b = (nat_le 48 b && nat_le b 57) || (nat_le 97 b && nat_le b 102)

-- the value of a byte that is a digit, below 256 for any byte
abbrev pub digit_of : ℕ → ℕ
digit_of b = if nat_le b 57 then (b + 208) % 256 else (b + 169) % 256

-- the byte of two digits
abbrev pub pair_of : ℕ → ℕ → ℕ
pair_of a b = (digit_of a * 16 % 256 + digit_of b) % 256

-- the bytes of pairs of digits
abbrev pub pairs_of : List ℕ → List ℕ
pairs_of [] = []
pairs_of (a ∷ []) = []
pairs_of (a ∷ b ∷ rest) = pair_of a b ∷ pairs_of rest
