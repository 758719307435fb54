-- Fixed point in 128 bits: 24 bits of a whole part, and 104 of a fraction.
use Rattle.std.specs.Prelude.{◌≡◌, ℕ, ◌+◌, ◌*◌, ◌/◌, ◌%◌, ◌^◌, ℤ, pos, ◌+ℤ◌, ◌*ℤ◌}
use Rattle.tri_cover.specs.Slope.{IsFloor}
use Rattle.tri_cover.specs.declared.ramps.WideRamp.{WideRamp}

-- the value at a column and a row
abbrev pub wide_at : WideRamp → ℕ → ℕ → ℕ
wide_at r x y = (r.start + x * r.right + y * r.down) % 2 ^ 128

-- its whole part
abbrev pub wide_whole : WideRamp → ℕ → ℕ → ℕ
wide_whole r x y = wide_at r x y / 2 ^ 104

-- a is v modulo 2^24
abbrev pub IsLowPart : ℕ → ℤ → Type 0
IsLowPart a v = (k : ℤ) × (v ≡ pos a +ℤ k *ℤ pos 16777216)

-- f is the low 128 bits of the floor of z times 2^104 by n
pub record IsWideSlope (z : ℤ) (f n : ℕ) : Type 0 where
  pub number : ℤ
  pub turns : ℤ
  pub low : number ≡ pos f +ℤ turns *ℤ pos (2 ^ 128)
  pub floor : IsFloor (z *ℤ pos (2 ^ 104)) number n
