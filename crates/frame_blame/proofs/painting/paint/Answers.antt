use Rattle.std.proofs.Common.{refl, ◌∙◌, arith}
use Rattle.frame_blame.specs.Brushes.{brush_covers, tipped}
use Rattle.frame_blame.specs.Marks.{no_mark}
use Rattle.frame_blame.proofs.Places.{rows-none, rows-next, rows-all}
use Rattle.frame_blame.proofs.painting.paint.Goals as goal

pub loop-y-init : goal.loop-y-init
loop-y-init c = record {
  start = omega arith;
  many = refl;
  done = rows-none no_mark c.args.width c.args.height (brush_covers c.args.brush.now) (tipped c.args.number c.args.brush.now) c.rows-from.result.0 c.args.marks.now (λ a b hb e. (c.rows-from.ensures.covered a b hb e).0);
}

pub loop-y-preserved : goal.loop-y-preserved
loop-y-preserved c = record {
  start = omega (arith, c.loop-y.invariant.start);
  many = c.paint_row.ensures.many ∙ c.loop-y.invariant.many;
  done = rows-next no_mark c.args.width c.args.height (brush_covers c.args.brush.now) (tipped c.args.number c.args.brush.now) c.loop-y.y c.args.marks.now c.loop-y.marks c.paint_row.new.marks c.loop-y.invariant.done c.paint_row.ensures.each;
}

pub returns : goal.returns
returns c = record {
  many = c.loop-y.invariant.many;
  each = rows-all no_mark c.args.width c.args.height (brush_covers c.args.brush.now) (tipped c.args.number c.args.brush.now) c.loop-y.y c.args.marks.now c.loop-y.marks
      (λ a b hb e. let in-rows = (c.rows-from.ensures.covered a b hb e).1 in omega (arith, in-rows, c.loop-y-test.false)) c.loop-y.invariant.done;
}
