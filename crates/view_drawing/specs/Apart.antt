-- Rectangles that are beside each other.
use Rattle.std.specs.Prelude.{◌≤◌, ◌⊎◌, ◌+◌}
use Rattle.gfx_model.specs.Raster.{Rect}

-- one of two rectangles ends before the other begins, in columns or in rows
abbrev pub AreBeside : Rect → Rect → Type 0
AreBeside a b = (a.x + a.w ≤ b.x) ⊎ ((b.x + b.w ≤ a.x) ⊎ ((a.y + a.h ≤ b.y) ⊎ (b.y + b.h ≤ a.y)))
