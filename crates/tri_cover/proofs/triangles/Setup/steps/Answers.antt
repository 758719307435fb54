use Rattle.std.proofs.Common.{rules, ◌≡◌, ◌≤◌, ◌<◌, ◌-◌, ℕ, ℤ, pos, ◌-ℤ◌, ◌*ℤ◌, unsigned_abs, FitsSigned, w64, arith, ap, ◌∙◌}
use Rattle.std.proofs.lemmas.Int.{ints, to_z-of_z}
use Rattle.gfx_model.specs.Raster.{area as area_spec}
use Rattle.tri_cover.specs.Seen.{triangle_seen}
use Rattle.tri_cover.proofs.triangles.Setup.steps.Goals as goal

gained : ℤ → ℤ
gained f = pos 0 -ℤ pos 256 *ℤ f

pub returns-clause-steps : goal.returns-clause-steps
unfolding gained
returns-clause-steps c =
    let s = c.args.self.now in
    let f1 : FitsSigned w64 c.weight.result = search rules in
    let f2 : FitsSigned w64 c.weight-2.result = search rules in
    let f3 : FitsSigned w64 c.weight-3.result = search rules in
    let f4 : FitsSigned w64 c.gained_by_column.result = search rules in
    let f5 : FitsSigned w64 c.gained_by_column-2.result = search rules in
    let f6 : FitsSigned w64 c.gained_by_column-3.result = search rules in
    let f7 : FitsSigned w64 c.gained_by_row.result = search rules in
    let f8 : FitsSigned w64 c.gained_by_row-2.result = search rules in
    let f9 : FitsSigned w64 c.gained_by_row-3.result = search rules in
    let fa : FitsSigned w64 c.area.result = search rules in
    let whole : c.area.result ≡ area_spec (triangle_seen s.a s.b s.c) = c.area.ensures.value in
    record {
      divisor = ap pos c.new-inverse.ensures ∙ (simp to_z-of_z at c.size.ensures.value) ∙ whole;
      at_a = simp to_z-of_z c.weight.ensures.value;
      at_b = simp to_z-of_z c.weight-2.ensures.value;
      at_c = simp to_z-of_z c.weight-3.ensures.value;
      right_a = simp to_z-of_z (c.gained_by_column.ensures.value ∙ ap gained s.second.fall);
      right_b = simp to_z-of_z (c.gained_by_column-2.ensures.value ∙ ap gained s.third.fall);
      right_c = simp to_z-of_z (c.gained_by_column-3.ensures.value ∙ ap gained s.first.fall);
      down_a = simp to_z-of_z (c.gained_by_row.ensures.value ∙ ap (λ z. pos 256 *ℤ z) s.second.rise);
      down_b = simp to_z-of_z (c.gained_by_row-2.ensures.value ∙ ap (λ z. pos 256 *ℤ z) s.third.rise);
      down_c = simp to_z-of_z (c.gained_by_row-3.ensures.value ∙ ap (λ z. pos 256 *ℤ z) s.first.rise);
    }

apart : (x m first after : ℕ) → first ≤ m → m ≤ after → first ≤ x → x < after → unsigned_abs (pos x -ℤ pos m) ≤ after - first
apart x m first after a b c d = omega (arith, ints)

pub returns-clause-nearby : goal.returns-clause-nearby
returns-clause-nearby c x y bx by h =
    let columns = c.columns-left.ensures.covered x y bx h in
    let rows = c.rows-top.ensures.covered x y by h in
    let across = apart x c.middle-x.result c.columns-left.result.0 c.columns-left.result.1 c.middle-x.ensures.low c.middle-x.ensures.high columns.0 columns.1 in
    let down = apart y c.middle-y.result c.rows-top.result.0 c.rows-top.result.1 c.middle-y.ensures.low c.middle-y.ensures.high rows.0 rows.1 in
    omega (arith, across, down)

pub invariant_of-result : goal.invariant_of-result
invariant_of-result c =
    let small = c.are_narrow-narrow.ensures in
    record {
      few = omega (arith, c.columns-left.ensures.within, c.rows-top.ensures.within, c.ranges.width, c.ranges.height);
      small_at_b = small.at_b;
      small_at_c = small.at_c;
      small_right_b = small.right_b;
      small_right_c = small.right_c;
      small_down_b = small.down_b;
      small_down_c = small.down_c;
    }

pub returns-then-after-left-clause-some : goal.returns-then-after-left-clause-some
returns-then-after-left-clause-some c x y bx by h =
    let columns = c.columns-left.ensures.covered x y bx h in
    let rows = c.rows-top.ensures.covered x y by h in
    grind (arith, columns.0, columns.1, rows.0, rows.1)
