-- The transform that moves no point.
use Rattle.std.proofs.Common.{◌≡◌, ap, ◌∙◌, FitsSigned, w32, arith}
use Rattle.std.specs.Prelude.{ℤ, pos, negsuc, ◌+ℤ◌, ◌*ℤ◌}
use Rattle.std.specs.Int.{int_div_euclid}
use Rattle.std.proofs.lemmas.Int.{ints}
use Rattle.gfx_model.specs.Number.{clamp_i32}
use Rattle.gfx_model.specs.Vertex.{Vertex}
use Rattle.gfx_model.specs.Raster.{Rect, identity, apply, row_of, place}
use Rattle.tri_cover.proofs.Fixed.{floor_is}
use Rattle.tri_cover.specs.Placed.{point_of, placed_at}

kept : (z : ℤ) → FitsSigned w32 z → clamp_i32 z ≡ z
kept (pos n) f = ap pos (omega (arith, ints, f))
kept (negsuc n) f = ap negsuc (omega (arith, ints, f))

-- a multiple is divided
divided : (s z : ℤ) → s ≡ z *ℤ pos 65536 → int_div_euclid s (pos 65536) ≡ z
divided s z e =
    let f = floor_is s 65536 (omega arith) in
    omega (arith, ints, e, f.is, f.below)

-- the coordinate that a row of the transform keeps
row : (s z : ℤ) → s ≡ z *ℤ pos 65536 → FitsSigned w32 z → clamp_i32 (int_div_euclid s (pos 65536)) ≡ z
row s z e fits = ap clamp_i32 (divided s z e) ∙ kept z fits

pub still_point : (x y z : ℤ) → FitsSigned w32 x → FitsSigned w32 y → FitsSigned w32 z → apply identity (point_of x y z) ≡ point_of x y z
still_point x y z fx fy fz =
    let a : row_of identity 0 (point_of x y z) ≡ x = row (pos 65536 *ℤ x +ℤ pos 0 *ℤ y +ℤ pos 0 *ℤ z +ℤ pos 0 *ℤ pos 65536) x (omega (arith, ints)) fx in
    let b : row_of identity 4 (point_of x y z) ≡ y = row (pos 0 *ℤ x +ℤ pos 65536 *ℤ y +ℤ pos 0 *ℤ z +ℤ pos 0 *ℤ pos 65536) y (omega (arith, ints)) fy in
    let c : row_of identity 8 (point_of x y z) ≡ z = row (pos 0 *ℤ x +ℤ pos 0 *ℤ y +ℤ pos 65536 *ℤ z +ℤ pos 0 *ℤ pos 65536) z (omega (arith, ints)) fz in
    λ i. record { x = a i; y = b i; z = c i }

-- a vertex that neither transform moves
pub still_place : (v : Vertex) (r : Rect) → apply identity v.position ≡ v.position → place identity identity r v ≡ placed_at v v.position r
still_place v r e = λ i. placed_at v ((ap (apply identity) e ∙ e) i) r
