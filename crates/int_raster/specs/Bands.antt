-- Bands of a surface after draws.
use Rattle.std.specs.Prelude.{ℕ, List, map, fold}
use Rattle.gfx_model.specs.Number.{map_from}
use Rattle.gfx_model.specs.Vertex.{Color}
use Rattle.gfx_model.specs.Pixel.{Pixel}
use Rattle.gfx_model.specs.World.{depth_bytes}
use Rattle.int_raster.specs.Drawing.{PreparedDraw, prepared_step}
use Rattle.int_raster.specs.Wiping.{Wiping, wiped_step}
use Rattle.int_raster.specs.Places.{flat_pixels, deep_pixels, by_place, below}

-- the colours of a band without depth after a change of each pixel
abbrev pub flat_after : ℕ → (ℕ → ℕ → Pixel → Pixel) → List Color → List Color
flat_after width f colors = map (λ p. p.color) (map_from (by_place width f) 0 (flat_pixels colors))

-- the texels of a band with depth
pub record Deep : Type 0 where
  pub colors : List Color
  pub depths : List Color

-- colours with their depths
abbrev pub deep : List Color → List Color → Deep
deep colors depths = record { colors = colors; depths = depths }

-- a band with depth after a change of each pixel
abbrev pub deep_after : ℕ → (ℕ → ℕ → Pixel → Pixel) → Deep → Deep
deep_after width f b =
    let pixels = map_from (by_place width f) 0 (deep_pixels b.colors b.depths) in
    deep (map (λ p. p.color) pixels) (map (λ p. depth_bytes p.depth) pixels)

-- a band without depth that begins at a row of the surface, after steps in their order, each a change of each pixel of the surface
abbrev pub flat_made : {D : Type 0} → (D → ℕ → ℕ → Pixel → Pixel) → (width top : ℕ) → List Color → List D → List Color
flat_made step width top colors ds = fold (λ cs d. flat_after width (below top (step d)) cs) colors ds

-- the same of a band with depth
abbrev pub deep_made : {D : Type 0} → (D → ℕ → ℕ → Pixel → Pixel) → (width top : ℕ) → Deep → List D → Deep
deep_made step width top b ds = fold (λ b d. deep_after width (below top (step d)) b) b ds

-- a band that begins at a row of the surface, after draws in their order
abbrev pub flat_drawn : (width top : ℕ) → List Color → List PreparedDraw → List Color
flat_drawn width top colors draws = flat_made prepared_step width top colors draws

-- a band after draws in order
abbrev pub deep_drawn : (width top : ℕ) → Deep → List PreparedDraw → Deep
deep_drawn width top b draws = deep_made prepared_step width top b draws

-- a band that begins at a row of the surface, after wipes in their order
abbrev pub flat_wiped : (width top : ℕ) → List Color → List Wiping → List Color
flat_wiped width top colors ws = flat_made wiped_step width top colors ws

-- the same of a band with depth
abbrev pub deep_wiped : (width top : ℕ) → Deep → List Wiping → Deep
deep_wiped width top b ws = deep_made wiped_step width top b ws
