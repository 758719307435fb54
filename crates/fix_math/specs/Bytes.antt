-- Texels are four bytes each.
use Rattle.std.specs.Prelude.{◌≡◌, ◌<◌, ℕ, List, [], length, slice_index, slice_index_or}

-- a texel is four bytes
pub record IsTexel (z : List ℕ) : Type 0 where
  pub four : length z ≡ 4
  pub bytes : (k : ℕ) → k < 4 → slice_index z k < 256

-- each is a texel
abbrev pub AreTexels : List (List ℕ) → Type 0
AreTexels zs = (i : ℕ) → i < length zs → IsTexel (slice_index_or zs i [])
