-- Weights that are stepped over a triangle's pixels.
use Rattle.std.specs.Prelude.{◌≡◌, ℕ, ◌+◌, ◌-◌, ◌*◌, ◌^◌, ◌≤◌, ℤ, pos, ◌+ℤ◌, ◌-ℤ◌, ◌*ℤ◌, unsigned_abs}
use Rattle.gfx_model.specs.Vertex.{Triangle}
use Rattle.gfx_model.specs.Raster.{ScreenVertex, edge, area}
use Rattle.tri_cover.specs.declared.steps.Steps.{Steps}

-- the steps of the weights of a triangle's corners
pub record AreSteps (s : Steps) (t : Triangle ScreenVertex) : Type 0 where
  pub divisor : pos s.inverse.divisor ≡ area t
  pub at_a : s.at.a ≡ edge t.b t.c s.x s.y
  pub at_b : s.at.b ≡ edge t.c t.a s.x s.y
  pub at_c : s.at.c ≡ edge t.a t.b s.x s.y
  pub right_a : s.right.a ≡ pos 0 -ℤ pos 256 *ℤ (t.c.y -ℤ t.b.y)
  pub right_b : s.right.b ≡ pos 0 -ℤ pos 256 *ℤ (t.a.y -ℤ t.c.y)
  pub right_c : s.right.c ≡ pos 0 -ℤ pos 256 *ℤ (t.b.y -ℤ t.a.y)
  pub down_a : s.down.a ≡ pos 256 *ℤ (t.c.x -ℤ t.b.x)
  pub down_b : s.down.b ≡ pos 256 *ℤ (t.a.x -ℤ t.c.x)
  pub down_c : s.down.c ≡ pos 256 *ℤ (t.b.x -ℤ t.a.x)

-- a pixel that so many steps reach
abbrev pub IsNearby : Steps → ℕ → ℕ → Type 0
IsNearby s x y = 1 + unsigned_abs (pos x -ℤ pos s.x) + unsigned_abs (pos y -ℤ pos s.y) ≤ s.most

-- so many bits of fraction are enough for the mean of 0 and two values: for the steps made, for the weights' sum, and for
-- the values at the pixel and per column and row
pub record HasRoom (s : Steps) (v w : ℤ) (bits : ℕ) : Type 0 where
  pub fine : 4 * s.most * s.inverse.divisor ≤ 2 ^ bits
  pub few : s.inverse.scale - bits ≤ 62
  pub at : unsigned_abs (s.at.b *ℤ v +ℤ s.at.c *ℤ w) ≤ 2 ^ (s.inverse.scale - bits)
  pub right : unsigned_abs (s.right.b *ℤ v +ℤ s.right.c *ℤ w) ≤ 2 ^ (s.inverse.scale - bits)
  pub down : unsigned_abs (s.down.b *ℤ v +ℤ s.down.c *ℤ w) ≤ 2 ^ (s.inverse.scale - bits)
