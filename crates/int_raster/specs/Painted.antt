-- The colours and depths that ramps give to a triangle's pixels.
use Rattle.std.specs.Prelude.{◌≡◌, ℕ, ◌-◌, ◌/◌, ◌%◌, ◌^◌, ◌<◌, ◌≤◌, ℤ, pos, true, false, List, [], ◌∷◌, slice_index, slice_index_or}
use Rattle.gfx_model.specs.Number.{zip_with, byte_product, int_at}
use Rattle.gfx_model.specs.Vertex.{Color}
use Rattle.gfx_model.specs.Raster.{covers, fragment_at, sample}
use Rattle.gfx_model.specs.World as world
use Rattle.gfx_model.specs.Words.{write_mask, is_blended}
use Rattle.fix_math.specs.Seen.{texels_seen}
use Rattle.tri_cover.specs.declared.ramps.Ramp.{Ramp}
use Rattle.tri_cover.specs.declared.ramps.WideRamp.{WideRamp}
use Rattle.tri_cover.specs.Slope.{ramp_at, IsSamePlace}
use Rattle.tri_cover.specs.Widened.{wide_whole}
use Rattle.tri_cover.specs.Shown.{setup_seen}
use Rattle.tri_cover.specs.declared.triangles.Setup.{Setup}
use Rattle.int_raster.specs.Seen.{paint_seen}
use Rattle.int_raster.specs.declared.lists.Prepared.{Prepared}
use Rattle.int_raster.specs.declared.painters.Shade.{Shade}
use Rattle.int_raster.specs.declared.painters.Place.{Place}
use Rattle.int_raster.specs.declared.painters.Painter.{Painter}
use Rattle.int_raster.specs.declared.painters.Painter.TheVariants as painters

-- the channel that a ramp has at a pixel
abbrev pub channel_at : Ramp → ℕ → ℕ → ℕ
channel_at r x y = ramp_at r x y / 2 ^ 56

-- the depth that a ramp has at a pixel
abbrev pub depth_at : Ramp → ℕ → ℕ → ℕ
depth_at r x y = ramp_at r x y / 2 ^ 40

-- a texture position modulo one unit
abbrev pub place_at : WideRamp → ℕ → ℕ → ℕ
place_at r x y = wide_whole r x y % 65536

-- the colour that four ramps have at a pixel
abbrev pub shade_at : Shade → ℕ → ℕ → Color
shade_at s x y = channel_at s.red x y ∷ channel_at s.green x y ∷ channel_at s.blue x y ∷ channel_at s.alpha x y ∷ []

-- the colour that a painter gives a pixel
abbrev pub painter_color : Painter → ℕ → ℕ → Color
painter_color (painters.Solid color) x y = color
painter_color (painters.Vertex s) x y = shade_at s x y
painter_color (painters.Texture t p) x y = sample (texels_seen t.now) (pos (place_at p.u x y)) (pos (place_at p.v x y))
painter_color (painters.TexColor t p s) x y = zip_with byte_product (sample (texels_seen t.now) (pos (place_at p.u x y)) (pos (place_at p.v x y))) (shade_at s x y)

-- the two positions differ from a fragment's by whole units
abbrev pub AreSamePlaces : Place → ℕ → ℕ → List ℤ → Type 0
AreSamePlaces p x y texcoord = IsSamePlace (place_at p.u x y) (int_at texcoord 0) × IsSamePlace (place_at p.v x y) (int_at texcoord 1)

-- the painter's colours are those of a draw's paint on the covered pixels of a surface
abbrev pub Paints : Painter → Prepared → Setup → (width height : ℕ) → Type 0
Paints p d s width height = (x y : ℕ) → x < width → y < height → covers (setup_seen s).triangle x y ≡ true → painter_color p x y ≡ world.painted (paint_seen d.paint) (fragment_at (setup_seen s).triangle x y)

-- the same in the columns of a row from one up to another
abbrev pub PaintsSpan : Painter → Prepared → Setup → (y first after : ℕ) → Type 0
PaintsSpan p d s y first after = (x : ℕ) → first ≤ x → x < after → painter_color p x y ≡ world.painted (paint_seen d.paint) (fragment_at (setup_seen s).triangle x y)

-- the ramp's values are the depths of the covered pixels of a surface
abbrev pub HasDepths : Ramp → Setup → (width height : ℕ) → Type 0
HasDepths r s width height = (x y : ℕ) → x < width → y < height → covers (setup_seen s).triangle x y ≡ true → depth_at r x y ≡ (fragment_at (setup_seen s).triangle x y).depth

-- a ramp has the triangle's depths along a span
abbrev pub HasSpanDepths : Ramp → Setup → (y first after : ℕ) → Type 0
HasSpanDepths r s y first after = (x : ℕ) → first ≤ x → x < after → depth_at r x y ≡ (fragment_at (setup_seen s).triangle x y).depth

-- the same of a ramp in 128 bits
abbrev pub HasWideDepths : WideRamp → Setup → (width height : ℕ) → Type 0
HasWideDepths r s width height = (x y : ℕ) → x < width → y < height → covers (setup_seen s).triangle x y ≡ true → wide_whole r x y ≡ (fragment_at (setup_seen s).triangle x y).depth

-- a wide ramp has the triangle's depths along a span
abbrev pub HasWideSpanDepths : WideRamp → Setup → (y first after : ℕ) → Type 0
HasWideSpanDepths r s y first after = (x : ℕ) → first ≤ x → x < after → wide_whole r x y ≡ (fragment_at (setup_seen s).triangle x y).depth

-- all channels are stored, and as they are painted
pub record IsOpaque (state : ℕ) : Type 0 where
  pub channels : write_mask state ≡ 15
  pub plain : is_blended state ≡ false

-- the four bytes of a colour
abbrev pub bytes_of : Color → Color
bytes_of c = slice_index c 0 ∷ slice_index c 1 ∷ slice_index c 2 ∷ slice_index c 3 ∷ []

-- a list has the colours of the columns from one up to another
abbrev pub HoldsPiece : List Color → (ℕ → Color) → (first after : ℕ) → Type 0
HoldsPiece colors f first after = (x : ℕ) → first ≤ x → x < after → slice_index_or colors (x - first) [] ≡ f x

-- a list has the depths of the columns from one up to another
abbrev pub HoldsDepths : List ℕ → (ℕ → ℕ) → (first after : ℕ) → Type 0
HoldsDepths depths f first after = (x : ℕ) → first ≤ x → x < after → slice_index_or depths (x - first) 0 ≡ f x

-- a list has depths in the columns from one up to another
abbrev pub AreDepths : List ℕ → (first after : ℕ) → Type 0
AreDepths depths first after = (x : ℕ) → first ≤ x → x < after → slice_index_or depths (x - first) 0 ≤ 16777215
