use Rattle.std.proofs.Common.{ℕ, List, refl, sym, ◌∙◌, arith}
use Rattle.std.specs.Prelude.{fold}
use Rattle.frame_tracing.specs.Given.{strokes_prepared}
use Rattle.frame_blame.specs.Brushes.{brushed}
use Rattle.frame_blame.specs.Marks.{Changes, mark_at, mark_after}
use Rattle.frame_blame.specs.declared.marks.Mark.{Mark}
use Rattle.frame_blame.proofs.Draws.{draw-next, draw-past}
use Rattle.frame_blame.proofs.Items.{changes-in}
use Rattle.frame_blame.proofs.deeds.Table.paint_draw.Goals as goal

pub loop-setup-init : goal.loop-setup-init
loop-setup-init c = record { wide = refl; high = refl; many = refl; each = λ x y hx hy. refl }

pub loop-setup-preserved : goal.loop-setup-preserved
loop-setup-preserved c =
    let a = c.args in
    let l = c.loop-setup in
    let w : ℕ = a.self.now.width in
    let old : List Mark = a.self.now.marks.items in
    let mid : List Mark = l.self.marks.items in
    let new : List Mark = c.paint.new.self.marks.items in
    let painted : Changes w a.self.now.height (brushed a.number c.triangle_brush.result) mid new =
    changes-in l.self.width w l.self.height a.self.now.height (brushed a.number c.triangle_brush.result) mid new l.invariant.wide l.invariant.high c.paint.ensures.painted in
    record {
      wide = c.paint.ensures.sides.0 ∙ l.invariant.wide;
      high = c.paint.ensures.sides.1 ∙ l.invariant.high;
      many = painted.many ∙ l.invariant.many;
      each = λ x y hx hy.
          draw-next a.draw.now a.number x y a.triangles.now l.setup-index c.setup-item.result c.triangle_brush.result (fold (mark_after a.number) (mark_at w old x y) (strokes_prepared a.draw.now a.triangles.now x y))
          (mark_at w mid x y) (mark_at w new x y) c.loop-setup-test.true (sym c.setup-item.is) c.triangle_brush.ensures (l.invariant.each x y hx hy) (painted.each x y hx hy);
    }

pub returns-clause-painted : goal.returns-clause-painted
returns-clause-painted c =
    let a = c.args in
    let l = c.loop-setup in
    let w : ℕ = a.self.now.width in
    record {
      many = l.invariant.many;
      each = λ x y hx hy.
          draw-past a.draw.now a.number x y a.triangles.now l.setup-index (fold (mark_after a.number) (mark_at w a.self.now.marks.items x y) (strokes_prepared a.draw.now a.triangles.now x y)) (mark_at w l.self.marks.items x y)
          (omega arith) (l.invariant.each x y hx hy);
    }
