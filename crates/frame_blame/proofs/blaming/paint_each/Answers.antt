use Rattle.std.proofs.Common.{◌+◌, ℕ, List, get_or, refl, ◌∙◌, arith}
use Rattle.render_stores.specs.Seen.{stores_seen}
use Rattle.trace_lines.specs.declared.doers.Doer.{Doer}
use Rattle.trace_lines.specs.declared.doers.Doer.TheVariants as doers
use Rattle.trace_lines.specs.Seen.{doer_seen}
use Rattle.frame_steps.specs.Doing.{deed_of_frame}
use Rattle.frame_steps.specs.Steps.{deeds_of_doers}
use Rattle.frame_blame.specs.Done.{strokes_done, history_of_these}
use Rattle.frame_blame.specs.Marks.{Changes, mark_at, marked, stroked}
use Rattle.frame_blame.specs.declared.marks.Mark.{Mark}
use Rattle.frame_blame.proofs.DoneDeeds.{deed-next, deed-past}
use Rattle.frame_blame.proofs.Draws.{got-self}
use Rattle.frame_blame.proofs.Items.{changes-in}
use Rattle.frame_blame.proofs.blaming.paint_each.Goals as goal

pub loop-place-init : goal.loop-place-init
loop-place-init g c = record { wide = refl; high = refl; many = refl; each = λ x y hx hy. refl }

pub loop-place-preserved : goal.loop-place-preserved
loop-place-preserved g c =
    let a = c.args in
    let l = c.loop-place in
    let w : ℕ = a.table.now.width in
    let doer : Doer = get_or a.doers.now l.place (doers.Clear 0) in
    let mid : List Mark = l.table.marks.items in
    let new : List Mark = c.paint_deed.new.self.marks.items in
    let stores = stores_seen c.do_deed.new.stores in
    let strokes = strokes_done stores (deed_of_frame a.frame.now (doer_seen doer)) in
    let painted : Changes w a.table.now.height (stroked (l.place + 1) strokes) mid new =
    changes-in l.table.width w l.table.height a.table.now.height (stroked (l.place + 1) strokes) mid new l.invariant.wide l.invariant.high c.in_ok-paint_deed.ensures.painted in
    record {
      wide = c.in_ok-paint_deed.ensures.sides.0 ∙ l.invariant.wide;
      high = c.in_ok-paint_deed.ensures.sides.1 ∙ l.invariant.high;
      many = painted.many ∙ l.invariant.many;
      each = λ x y hx hy.
          deed-next x y (λ d. deed_of_frame a.frame.now (doer_seen d)) a.doers.now l.place doer (stores_seen l.stores) stores
          (marked (mark_at w a.table.now.marks.items x y) (history_of_these x y 0 (stores_seen a.stores.now) (deeds_of_doers a.frame.now a.doers.now))) (mark_at w mid x y) (mark_at w new x y)
          c.loop-place-test.true (got-self a.doers.now l.place _ c.loop-place-test.true) (l.invariant.each x y hx hy) c.in_ok-do_deed.ensures (painted.each x y hx hy);
    }

pub returns-clause-painted : goal.returns-clause-painted
returns-clause-painted g c =
    let a = c.args in
    let l = c.loop-place in
    let w : ℕ = a.table.now.width in
    record {
      many = l.invariant.many;
      each = λ x y hx hy.
          deed-past x y (λ d. deed_of_frame a.frame.now (doer_seen d)) a.doers.now l.place (stores_seen l.stores)
          (marked (mark_at w a.table.now.marks.items x y) (history_of_these x y 0 (stores_seen a.stores.now) (deeds_of_doers a.frame.now a.doers.now))) (mark_at w l.table.marks.items x y)
          (omega arith) (l.invariant.each x y hx hy);
    }
