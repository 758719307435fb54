-- Sides of a triangle that are walked from row to row.
use Rattle.std.specs.Prelude.{ℕ, ℤ, pos, ◌≡◌, ◌*◌, ◌+ℤ◌, ◌-ℤ◌, ◌*ℤ◌, ◌<ℤ◌}
use Rattle.tri_cover.specs.Seen.{IsRest}
use Rattle.tri_cover.specs.declared.edges.Edge.{Edge}
use Rattle.tri_cover.specs.declared.sides.Side.{Side}
use Rattle.tri_cover.specs.declared.sides.Sides.{Sides}
use Rattle.tri_cover.specs.declared.stepping.Quotient.{Quotient}
use Rattle.tri_cover.specs.declared.triangles.Setup.{Setup}

-- the value of an edge at the left end of a row
abbrev pub reached_at : Edge → ℕ → ℤ
reached_at e y = e.base +ℤ e.rise *ℤ pos (256 * y)

-- how much an edge's value changes from column to column, or 1 where it does not
pub record IsDivisor (n fall : ℤ) : Type 0 where
  pub right : pos 0 <ℤ fall → n ≡ pos 256 *ℤ fall
  pub left : fall <ℤ pos 0 → n ≡ pos 256 *ℤ (pos 0 -ℤ fall)
  pub level : fall ≡ pos 0 → n ≡ pos 1

-- the whole number and the rest of z by n
pub record IsDivided (q : Quotient) (z n : ℤ) : Type 0 where
  pub rest : IsRest q n
  pub is : z ≡ q.whole *ℤ n +ℤ q.rest

-- an edge in a row
pub record IsSide (s : Side) (e : Edge) (y : ℕ) : Type 0 where
  pub divisor : IsDivisor s.divisor e.fall
  pub here : IsDivided s.here (reached_at e y) s.divisor
  pub gain : IsDivided s.gain (pos 256 *ℤ e.rise) s.divisor

-- a triangle's edges in a row
pub record AreSides (s : Sides) (t : Setup) (y : ℕ) : Type 0 where
  pub ab : IsSide s.ab t.ab y
  pub bc : IsSide s.bc t.bc y
  pub ca : IsSide s.ca t.ca y
