-- The ends of rows by bounds in fixed point.
use Rattle.std.specs.Prelude.{ℕ, ℤ, pos, ◌≡◌, ◌≤◌, ◌<◌, ◌+◌, ◌*◌, ◌^◌, ◌+ℤ◌, ◌*ℤ◌, unsigned_abs, int_le, Bool, ◌&&◌, nat_le, nat_lt, List, slice_index_or}
use Rattle.gfx_model.specs.Vertex.{Triangle}
use Rattle.gfx_model.specs.Raster.{ScreenVertex, covers}
use Rattle.tri_cover.specs.declared.bounds.Bound.{Bound}
use Rattle.tri_cover.specs.declared.bounds.Bounds.{Bounds}

-- a bound some rows on, in 1/2^28 of a column
abbrev pub bound_at : Bound → ℕ → ℤ
bound_at b k = b.at +ℤ b.step *ℤ pos k

-- whether a column is not behind a right end
abbrev pub is_not_behind : ℤ → ℕ → Bool
is_not_behind end x = int_le (pos (2 ^ 28 * x)) end

-- whether a column is not before a left end, which is given by its distance to the left
abbrev pub is_not_before : ℤ → ℕ → Bool
is_not_before end x = int_le (pos 0) (end +ℤ pos (2 ^ 28 * x))

-- whether a column lies between two left and two right ends
abbrev pub is_within : ℤ → ℤ → ℤ → ℤ → ℕ → Bool
is_within left other_left right other_right x = (is_not_before left x && is_not_before other_left x) && (is_not_behind right x && is_not_behind other_right x)

-- whether bounds let a column pass some rows on
abbrev pub is_let : Bounds → ℕ → ℕ → Bool
is_let b k x = is_within (bound_at b.left k) (bound_at b.other_left k) (bound_at b.right k) (bound_at b.other_right k) x

-- a bound that stays in 64 bits for 32 rows
abbrev pub IsTame : Bound → Type 0
IsTame b = (k : ℕ) → k ≤ 32 → unsigned_abs (bound_at b k) < 2 ^ 63

-- bounds that stay in 64 bits for 32 rows
pub record AreTame (b : Bounds) : Type 0 where
  pub left : IsTame b.left
  pub other_left : IsTame b.other_left
  pub right : IsTame b.right
  pub other_right : IsTame b.other_right

-- a bound some rows on from a start
pub record IsMoved (b start : Bound) (k : ℕ) : Type 0 where
  pub at : b.at ≡ bound_at start k
  pub step : b.step ≡ start.step

-- bounds some rows on from a start
pub record AreMoved (b start : Bounds) (k : ℕ) : Type 0 where
  pub left : IsMoved b.left start.left k
  pub other_left : IsMoved b.other_left start.other_left k
  pub right : IsMoved b.right start.right k
  pub other_right : IsMoved b.other_right start.other_right k

-- the columns of a row from first up to after that bounds let pass some rows on
pub record IsCut (s : ℕ × ℕ) (b : Bounds) (first after k : ℕ) : Type 0 where
  pub order : s.0 ≤ s.1
  pub within : s.1 ≤ after
  pub columns : (x : ℕ) → (nat_le s.0 x && nat_lt x s.1) ≡ ((nat_le first x && nat_lt x after) && is_let b k x)

-- the columns of a row from first up to after that a triangle covers
pub record IsSpan (s : ℕ × ℕ) (t : Triangle ScreenVertex) (first after y : ℕ) : Type 0 where
  pub order : s.0 ≤ s.1
  pub within : s.1 ≤ after
  pub columns : (x : ℕ) → (nat_le s.0 x && nat_lt x s.1) ≡ ((nat_le first x && nat_lt x after) && covers t x y)

-- a list has the columns of so many rows that bounds let pass
abbrev pub HoldsCuts : List (ℕ × ℕ) → Bounds → (first after count : ℕ) → Type 0
HoldsCuts spans b first after count = (k : ℕ) → k < count → IsCut (slice_index_or spans k (0, 0)) b first after k

-- a list has the covered columns of so many rows from a row on
abbrev pub HoldsSpans : List (ℕ × ℕ) → Triangle ScreenVertex → (first after y count : ℕ) → Type 0
HoldsSpans spans t first after y count = (k : ℕ) → k < count → IsSpan (slice_index_or spans k (0, 0)) t first after (y + k)
