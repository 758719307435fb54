-- Pixels of a surface by their place, row by row from the top.
use Rattle.std.specs.Prelude.{ℕ, ◌+◌, ◌-◌, ◌/◌, ◌%◌, Bool, ◌&&◌, nat_le, nat_lt, if◌then◌else◌, List, None, Some, map}
use Rattle.gfx_model.specs.Number.{zip_with, u32_at}
use Rattle.gfx_model.specs.Vertex.{Color}
use Rattle.gfx_model.specs.Raster.{Rect, contains, covers}
use Rattle.gfx_model.specs.Pixel.{Pixel}
use Rattle.gfx_model.specs.World.{Facing}
use Rattle.int_raster.specs.Drawing.{PreparedDraw, covered_step}

-- the pixels of a surface without depth
abbrev pub flat_pixel : Color → Pixel
flat_pixel c = record { color = c; depth = None }

-- pixels without depth
abbrev pub flat_pixels : List Color → List Pixel
flat_pixels colors = map flat_pixel colors

-- the pixels of a surface with depth
abbrev pub deep_pixel : Color → Color → Pixel
deep_pixel c z = record { color = c; depth = Some (u32_at z 0) }

-- pixels with depth words
abbrev pub deep_pixels : List Color → List Color → List Pixel
deep_pixels colors depths = zip_with deep_pixel colors depths

-- a change of the elements from the first up to another
abbrev pub spanned : {A : Type 0} → (ℕ → A → A) → ℕ → ℕ → ℕ → A → A
spanned g first after k v = if nat_le first k && nat_lt k after then g k v else v

-- a change by column and row as a change by the place in a surface of some width
abbrev pub by_place : {A : Type 0} → ℕ → (ℕ → ℕ → A → A) → ℕ → A → A
by_place width f i p = f (i % width) (i / width) p

-- a change of the rows before one
abbrev pub above : {A : Type 0} → ℕ → ℕ → (ℕ → ℕ → A → A) → ℕ → A → A
above width y f i p = if nat_lt (i / width) y then by_place width f i p else p

-- a change of the pixels where a test holds
abbrev pub where_test : {A : Type 0} → (ℕ → ℕ → Bool) → (ℕ → ℕ → A → A) → ℕ → ℕ → A → A
where_test test f x y p = if test x y then f x y p else p

-- whether a triangle may change a pixel
abbrev pub is_drawn : Rect → Facing → ℕ → ℕ → Bool
is_drawn cut f x y = contains cut x y && covers f.triangle x y

-- what one triangle of a draw does to a surface's pixels
abbrev pub facing_change : PreparedDraw → Facing → ℕ → ℕ → Pixel → Pixel
facing_change d f = where_test (is_drawn d.cut f) (covered_step d.state d.paint f)

-- a change by column and row as a change by the place, in the row that begins at a place
abbrev pub in_row : {A : Type 0} → ℕ → ℕ → (ℕ → ℕ → A → A) → ℕ → A → A
in_row start y f i p = f (i - start) y p

-- a change by column and row as the change of a band whose first row is a row of the surface
abbrev pub below : {A : Type 0} → ℕ → (ℕ → ℕ → A → A) → ℕ → ℕ → A → A
below top f x y p = f x (top + y) p
