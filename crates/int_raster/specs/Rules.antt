-- The depth test of a state word by the order of two depths.
use Rattle.std.specs.Prelude.{◌≡◌, ◌≤◌, ◌<◌, ◌+◌, ◌*◌, ◌/◌, ◌%◌, ◌^◌, ℕ, ◌==◌, nat_lt, Bool, true, false, if◌then◌else◌, IfSome, IsTrue}
use Rattle.gfx_model.specs.Number.{u32_at}
use Rattle.gfx_model.specs.Words.{depth_test_of, writes_depth}
use Rattle.gfx_model.specs.Pixel.{passes_depth}
use Rattle.tri_cover.specs.declared.triangles.Setup.{Setup}
use Rattle.int_raster.specs.declared.lists.Prepared.{Prepared}
use Rattle.gfx_model.specs.Raster.{fragment_at}
use Rattle.gfx_model.specs.World.{painted}
use Rattle.tri_cover.specs.Shown.{setup_seen}
use Rattle.int_raster.specs.Seen.{paint_seen, facing_seen, step_seen, color_seen}
use Rattle.gfx_model.specs.Vertex.{Color}
use Rattle.int_raster.specs.Places.{deep_pixel}
use Rattle.int_raster.specs.Painted.{IsOpaque}
use Rattle.pixel_ops.specs.Blended.{IsBlending}
use Rattle.int_raster.specs.declared.opaque.Rule.{Rule}
use Rattle.int_raster.specs.declared.reaches.Reach.{Reach}
use Rattle.int_raster.specs.declared.opaque.Mix.{Mix}
use Rattle.int_raster.specs.declared.opaque.Level.{Level}
use Rattle.int_raster.specs.declared.opaque.Tile.{Tile}
use Rattle.int_raster.specs.Tiled.{word_bytes, deep_word, is_among, deep_of, is_within}

-- the answer for less, equal or greater
abbrev pub by_order : Rule → ℕ → ℕ → Bool
by_order r new stored = if nat_lt new stored then r.less else (if new == stored then r.equal else r.greater)

-- a rule is the depth test of a state word, and stores as it says
pub record IsRule (r : Rule) (state : ℕ) : Type 0 where
  pub test : (new stored : ℕ) → by_order r new stored ≡ passes_depth (depth_test_of state) new stored
  pub stores : r.writes ≡ writes_depth state

-- by how far a stored depth lies behind a new one, and by the bits of a depth word, a rule's test and what it stores
pub record IsReach (t : Reach) (r : Rule) : Type 0 where
  pub test : (new stored : ℕ) → new ≤ 16777215 → stored < 16777216 → by_order r new stored ≡ is_within t.least t.more new stored
  pub stores : (new word : ℕ) → new ≤ 16777215 → word < 2 ^ 32 → deep_of t.bits t.taken new word ≡ (if r.writes then new else word % 2 ^ 24) + 2 ^ 24 * (word / 2 ^ 24)

-- every depth passes, and none is stored
pub record IsOver (r : Rule) : Type 0 where
  pub less : r.less ≡ true
  pub equal : r.equal ≡ true
  pub greater : r.greater ≡ true
  pub writes : r.writes ≡ false

-- a triangle without a stencil word, of a draw that stores all channels as they are painted
pub record IsPlain (r : Rule) (d : Prepared) (s : Setup) : Type 0 where
  pub opaque : IsOpaque d.state
  pub rule : IsRule r d.state
  pub plain : (facing_seen d s).stencil ≡ 0

-- the depth test and the blending of a triangle without a stencil word
pub record IsMix (m : Mix) (d : Prepared) (s : Setup) : Type 0 where
  pub rule : IsRule m.rule d.state
  pub blending : IsBlending m.blending d.state
  pub plain : (facing_seen d s).stencil ≡ 0

-- a triangle changes colours alone, whatever the depths are
abbrev pub IsFree : Prepared → Setup → Type 0
IsFree d s = (x y : ℕ) (c z : Color) → deep_pixel (color_seen d s x y c) z ≡ step_seen d s x y (deep_pixel c z)

-- a tile has this colour, goes over the stored depths that this depth passes by a rule, and stores it where the rule does; it is
-- free only where the rule lets every depth pass and stores none
pub record IsTile (t : Tile) (c : Color) (z : ℕ) (r : Rule) : Type 0 where
  pub color : word_bytes t.color ≡ c
  pub low : t.least ≤ 16777216
  pub few : t.more ≤ 16777215
  pub test : (stored : ℕ) → stored < 16777216 → by_order r z stored ≡ is_among t.least t.more stored
  pub free : IsTrue t.free → IsOver r
  pub stores : (word : ℕ) → word < 2 ^ 32 → deep_word t.bits t.depth word ≡ (if r.writes then z else word % 2 ^ 24) + 2 ^ 24 * (word / 2 ^ 24)

-- the texels of a pixel's colour and depth after a tile is stored over others
abbrev pub IsStored : Tile → (old deep color z : Color) → Type 0
IsStored t old deep color z =
    (color ≡ (if is_among t.least t.more (u32_at deep 0 % 2 ^ 24) then word_bytes t.color else old))
    × (u32_at z 0 ≡ (if is_among t.least t.more (u32_at deep 0 % 2 ^ 24) then deep_word t.bits t.depth (u32_at deep 0) else u32_at deep 0))

-- all pixels of a triangle without a stencil word have this colour and this depth, and are stored as painted
pub record IsLevel (l : Level) (d : Prepared) (s : Setup) : Type 0 where
  pub plain : IsPlain l.rule d s
  pub few : l.depth ≤ 16777215
  pub paints : (x y : ℕ) → l.color ≡ painted (paint_seen d.paint) (fragment_at (setup_seen s).triangle x y)
  pub depths : (x y : ℕ) → l.depth ≡ (fragment_at (setup_seen s).triangle x y).depth
  pub tile : IfSome l.tile (λ t. IsTile t l.color l.depth l.rule)
