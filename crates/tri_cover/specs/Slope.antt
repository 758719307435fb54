-- Fixed point: values that are stepped by columns and rows in 64 bits.
use Rattle.std.specs.Prelude.{◌≡◌, ℕ, ◌+◌, ◌*◌, ◌%◌, ◌^◌, ◌<◌, ℤ, pos, ◌+ℤ◌, ◌-ℤ◌, ◌*ℤ◌, unsigned_abs}
use Rattle.gfx_model.specs.Vertex.{Triangle}
use Rattle.gfx_model.specs.Raster.{ScreenVertex, weighted}
use Rattle.tri_cover.specs.declared.ramps.Ramp.{Ramp}

-- z is q times n and a rest
pub record IsFloor (z q : ℤ) (n : ℕ) : Type 0 where
  pub rest : ℕ
  pub below : rest < n
  pub is : z ≡ q *ℤ pos n +ℤ pos rest

-- f is nearly z times s divided by n
abbrev pub IsNearly : ℤ → ℤ → ℕ → ℕ → Type 0
IsNearly z f n s = unsigned_abs (z *ℤ pos s -ℤ f *ℤ pos n) < 2 * n

-- f is the low 64 bits of a number that is
pub record IsSlope (z : ℤ) (f n s : ℕ) : Type 0 where
  pub number : ℤ
  pub turns : ℤ
  pub low : number ≡ pos f +ℤ turns *ℤ pos (2 ^ 64)
  pub near : IsNearly z number n s

-- a ramp's value at a column and a row
abbrev pub ramp_at : Ramp → ℕ → ℕ → ℕ
ramp_at r x y = (r.start + x * r.right + y * r.down) % 2 ^ 64

-- the ramp's value, with the bits above the 64 that are kept, has the mean of three values as its whole part
pub record IsRamp (r : Ramp) (t : Triangle ScreenVertex) (u v w : ℤ) (s x y : ℕ) : Type 0 where
  pub turns : ℤ
  pub floor : IsFloor (pos (ramp_at r x y) +ℤ turns *ℤ pos (2 ^ 64)) (weighted t x y u v w) s

-- a number that differs from a texture position by whole units
abbrev pub IsSamePlace : ℕ → ℤ → Type 0
IsSamePlace a v = (k : ℤ) × (v ≡ pos a +ℤ k *ℤ pos 65536)
