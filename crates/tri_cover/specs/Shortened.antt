-- Bounds in 32 bits.
use Rattle.std.specs.Prelude.{ℕ, ◌≡◌, ◌<◌, ◌+◌, ◌-◌, ◌*◌, ◌/◌, ◌%◌, ◌^◌, min, max, nat_le, List, slice_index}
use Rattle.tri_cover.specs.Bounded.{bound_at, is_not_before, is_not_behind}
use Rattle.tri_cover.specs.declared.bounds.Bound.{Bound}
use Rattle.tri_cover.specs.declared.bounds.Bounds.{Bounds}
use Rattle.tri_cover.specs.declared.shorts.Short.{Short}
use Rattle.tri_cover.specs.declared.shorts.Shorts.{Shorts}
use Rattle.tri_cover.specs.declared.quads.Fours.{Fours}

-- a bound some rows on, in 1/2^20 of a column, and 2048 columns more than it is
abbrev pub short_at : Short → ℕ → ℕ
short_at s k = (s.at + s.step * k) % 2 ^ 32

-- the same bound in 32 bits in 32 rows, for columns below 2048
abbrev pub IsShort : Short → Bound → Type 0
IsShort s b = (k x : ℕ) → k < 32 → x < 2048 → (is_not_before (bound_at b k) x ≡ nat_le 2048 (short_at s k / 2 ^ 20 + x)) × (is_not_behind (bound_at b k) x ≡ nat_le (x + 2048) (short_at s k / 2 ^ 20))

-- the same bounds in 32 bits
pub record AreShort (s : Shorts) (b : Bounds) : Type 0 where
  pub left : IsShort s.left b.left
  pub other_left : IsShort s.other_left b.other_left
  pub right : IsShort s.right b.right
  pub other_right : IsShort s.other_right b.other_right

-- the first column between two left bounds and limits
abbrev pub left_end : (left other first after : ℕ) → ℕ
left_end left other first after = min (max (2048 - min (min left other / 2 ^ 20) 2048) first) after

-- the column behind the last, by two right bounds, a first one and a limit
abbrev pub right_end : (right other from after : ℕ) → ℕ
right_end right other from after = max (min (max (min right other / 2 ^ 20) 2047 - 2047) after) from

-- the columns of a row that bounds let pass some rows on
abbrev pub short_span : Shorts → (first after k : ℕ) → ℕ × ℕ
short_span s first after k =
    let from = left_end (short_at s.left k) (short_at s.other_left k) first after in
    (from, right_end (short_at s.right k) (short_at s.other_right k) from after)

-- a bound in four rows from one on
abbrev pub IsFour : List ℕ → Short → ℕ → Type 0
IsFour lanes s k = (j : ℕ) → j < 4 → slice_index lanes j ≡ short_at s (k + j)

-- bounds in four rows from one on
pub record AreFours (f : Fours) (s : Shorts) (k : ℕ) : Type 0 where
  pub left : IsFour f.left s.left k
  pub other_left : IsFour f.other_left s.other_left k
  pub right : IsFour f.right s.right k
  pub other_right : IsFour f.other_right s.other_right k

-- what a bound gains in four rows
abbrev pub IsByFour : List ℕ → Short → Type 0
IsByFour lanes s = (j : ℕ) → j < 4 → slice_index lanes j ≡ s.step * 4 % 2 ^ 32

-- what bounds gain in four rows
pub record AreByFour (f : Fours) (s : Shorts) : Type 0 where
  pub left : IsByFour f.left s.left
  pub other_left : IsByFour f.other_left s.other_left
  pub right : IsByFour f.right s.right
  pub other_right : IsByFour f.other_right s.other_right
