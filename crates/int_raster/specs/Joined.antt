-- The columns of rows that a list has, and two spans as one.
use Rattle.std.specs.Prelude.{ℕ, ◌≡◌, ◌≤◌, ◌<◌, ◌+◌, Bool, true, ◌&&◌, ◌||◌, nat_le, nat_lt, min, max, List, slice_index_or, fold}
use Rattle.gfx_model.specs.Number.{map_from}
use Rattle.gfx_model.specs.Vertex.{Triangle}
use Rattle.gfx_model.specs.Pixel.{Pixel}
use Rattle.gfx_model.specs.Raster.{ScreenVertex, contains, covers}
use Rattle.fix_math.specs.Seen.{rect_seen}
use Rattle.tri_cover.specs.Bounded.{HoldsSpans}
use Rattle.tri_cover.specs.Shown.{setup_seen}
use Rattle.tri_cover.specs.declared.triangles.Setup.{Setup}
use Rattle.int_raster.specs.declared.lists.Prepared.{Prepared}
use Rattle.int_raster.specs.declared.rows.Rows.{Rows}
use Rattle.int_raster.specs.Filled.{AreInCut}
use Rattle.int_raster.specs.Places.{by_place, below}
use Rattle.int_raster.specs.Seen.{change_seen}

-- whether a column lies in a span
abbrev pub is_in : ℕ × ℕ → ℕ → Bool
is_in s x = nat_le s.0 x && nat_lt x s.1

-- a span of a row of some width
pub record IsInside (s : ℕ × ℕ) (width : ℕ) : Type 0 where
  pub order : s.0 ≤ s.1
  pub within : s.1 ≤ width

-- the spans of so many rows of some width
abbrev pub AreInside : List (ℕ × ℕ) → (width count : ℕ) → Type 0
AreInside spans width count = (k : ℕ) → k < count → IsInside (slice_index_or spans k (0, 0)) width

-- a list has the columns of so many rows from a row on in which a test holds
abbrev pub HoldsTest : List (ℕ × ℕ) → (ℕ → ℕ → Bool) → (y width count : ℕ) → Type 0
HoldsTest spans test y width count = (k x : ℕ) → k < count → x < width → test x (y + k) ≡ is_in (slice_index_or spans k (0, 0)) x

-- a span has the columns of two
pub record IsJoined (s a b : ℕ × ℕ) : Type 0 where
  pub order : s.0 ≤ s.1
  pub within : s.1 ≤ max a.1 b.1
  pub columns : (x : ℕ) → is_in s x ≡ (is_in a x || is_in b x)

-- the columns of rows in two lists touch
abbrev pub TouchAll : List (ℕ × ℕ) → List (ℕ × ℕ) → (count : ℕ) → Type 0
TouchAll a b count = (k : ℕ) → k < count → max (slice_index_or a k (0, 0)).0 (slice_index_or b k (0, 0)).0 ≤ min (slice_index_or a k (0, 0)).1 (slice_index_or b k (0, 0)).1

-- a list has the columns of rows in two lists
abbrev pub JoinAll : List (ℕ × ℕ) → List (ℕ × ℕ) → List (ℕ × ℕ) → (count : ℕ) → Type 0
JoinAll joined a b count = (k : ℕ) → k < count → IsJoined (slice_index_or joined k (0, 0)) (slice_index_or a k (0, 0)) (slice_index_or b k (0, 0))

-- a list has, for so many rows from a row on, the columns of another list and those from first up to after that a triangle covers
abbrev pub HoldsJoined : List (ℕ × ℕ) → List (ℕ × ℕ) → Triangle ScreenVertex → (first after y count : ℕ) → Type 0
HoldsJoined joined spans t first after y count = (others : List (ℕ × ℕ)) × (HoldsSpans others t first after y count × JoinAll joined spans others count)

-- one of two tests holds
abbrev pub either : (ℕ → ℕ → Bool) → (ℕ → ℕ → Bool) → ℕ → ℕ → Bool
either p q x y = p x y || q x y

-- a band after triangles of a draw in turn
abbrev pub in_turn : Rows → Prepared → List Pixel → List Setup → List Pixel
in_turn rows d ps ss = fold (λ qs s. map_from (by_place rows.width (below rows.top (change_seen d s))) 0 qs) ps ss

-- the rows of a band that a triangle may change are among these, and they lie in the cut
pub record HoldRows (r : ℕ × ℕ) (rows : Rows) (d : Prepared) (s : Setup) : Type 0 where
  pub order : r.0 ≤ r.1
  pub within : r.1 ≤ rows.count
  pub all : (x y : ℕ) → y < rows.count → contains (rect_seen d.cut) x (rows.top + y) ≡ true → covers (setup_seen s).triangle x (rows.top + y) ≡ true → (r.0 ≤ y) × (y < r.1)
  pub cut : AreInCut rows d.cut r.0 r.1
