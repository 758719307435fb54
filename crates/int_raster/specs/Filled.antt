-- Limits of rows and columns.
use Rattle.std.specs.Prelude.{ℕ, ◌≡◌, ◌≤◌, ◌<◌, ◌+◌, ◌&&◌, nat_le, nat_lt}
use Rattle.gfx_model.specs.Raster.{contains}
use Rattle.fix_math.specs.Seen.{rect_seen}
use Rattle.fix_math.specs.declared.geometry.Rect.{Rect}
use Rattle.int_raster.specs.declared.rows.Rows.{Rows}

-- the columns of a cut on a surface of a width
pub record AreLimits (limits : ℕ × ℕ) (cut : Rect) (width : ℕ) : Type 0 where
  pub within : limits.1 ≤ width
  pub columns : (x y : ℕ) → x < width → cut.y ≤ y → y < cut.y + cut.h → contains (rect_seen cut) x y ≡ (nat_le limits.0 x && nat_lt x limits.1)

-- rows of a band that lie in a cut
abbrev pub AreInCut : Rows → Rect → (first after : ℕ) → Type 0
AreInCut rows cut first after = (y : ℕ) → first ≤ y → y < after → (cut.y ≤ rows.top + y) × (rows.top + y < cut.y + cut.h)
