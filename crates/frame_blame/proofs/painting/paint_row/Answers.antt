use Rattle.std.proofs.Common.{◌≡◌, ◌<◌, ◌+◌, nat_le, nat_lt, ℕ, true, get_or, slice_set, refl, sym, ap, subst, ◌∙◌, arith}
use Rattle.std.proofs.lemmas.Bool.{leb-true, ltb-true}
use Rattle.std.proofs.lemmas.List.{length-set}
use Rattle.gfx_model.specs.Raster.{contains}
use Rattle.fix_math.specs.Seen.{rect_seen}
use Rattle.pixel_strokes.specs.Seen.{stroke_seen}
use Rattle.frame_blame.specs.Brushes.{brush_covers, tip_covers, tipped}
use Rattle.frame_blame.specs.Marks.{mark_after, mark_at, no_mark}
use Rattle.frame_blame.specs.declared.marks.Mark.{Mark}
use Rattle.frame_blame.proofs.Places.{between, front-true, back-true, InColumns, columns-none, columns-next, columns-all}
use Rattle.frame_blame.proofs.painting.paint_row.Goals as goal

pub stroke-stroke-requires : goal.stroke-stroke-requires
stroke-stroke-requires c =
    let hk : c.loop-x.x < c.args.width = omega (arith, c.loop-x-test.true, c.columns-from.ensures.within) in
    back-true (contains (rect_seen c.args.brush.now.cut) c.loop-x.x c.args.y) (tip_covers c.args.brush.now.tip c.loop-x.x c.args.y)
    (sym (c.columns-from.ensures.part c.loop-x.x hk) ∙ between c.columns-from.result.0 c.loop-x.x c.columns-from.result.1 c.loop-x.invariant.start c.loop-x-test.true)

pub loop-x-init : goal.loop-x-init
loop-x-init c = record {
  start = omega arith;
  many = refl;
  done = columns-none no_mark c.args.width c.args.height (brush_covers c.args.brush.now) (tipped c.args.number c.args.brush.now) c.args.y c.columns-from.result.0 c.args.marks.now
      (λ a ha e. leb-true c.columns-from.result.0 a (front-true (nat_le c.columns-from.result.0 a) (nat_lt a c.columns-from.result.1) (c.columns-from.ensures.part a ha ∙ e)));
}

pub loop-x-preserved : goal.loop-x-preserved
loop-x-preserved c =
    let a = c.args in
    let l = c.loop-x in
    let w : ℕ = a.width in
    let v : Mark = c.mark_after-next.result in
    let hk : l.x < w = omega (arith, c.loop-x-test.true, c.columns-from.ensures.within) in
    let covered : brush_covers a.brush.now l.x a.y ≡ true = sym (c.columns-from.ensures.part l.x hk) ∙ between c.columns-from.result.0 l.x c.columns-from.result.1 l.invariant.start c.loop-x-test.true in
    let is : v ≡ tipped a.number a.brush.now l.x a.y (mark_at w l.marks l.x a.y) =
    c.mark_after-next.ensures ∙ ap (λ i. mark_after a.number (get_or l.marks i no_mark) (stroke_seen c.stroke-stroke.result)) c.place-at.ensures ∙ ap (mark_after a.number (mark_at w l.marks l.x a.y)) c.stroke-stroke.ensures in
    record {
      start = omega (arith, l.invariant.start);
      many = length-set l.marks c.place-at.result v ∙ l.invariant.many;
      done = subst (λ i. InColumns no_mark w a.height (brush_covers a.brush.now) (tipped a.number a.brush.now) a.y (l.x + 1) a.marks.now (slice_set l.marks i v)) (sym c.place-at.ensures)
          (columns-next no_mark w a.height (brush_covers a.brush.now) (tipped a.number a.brush.now) a.y l.x a.marks.now l.marks v hk c.requires.row (l.invariant.many ∙ c.requires.whole) covered is l.invariant.done);
    }

pub returns : goal.returns
returns c = record {
  many = c.loop-x.invariant.many;
  each = columns-all no_mark c.args.width c.args.height (brush_covers c.args.brush.now) (tipped c.args.number c.args.brush.now) c.args.y c.loop-x.x c.args.marks.now c.loop-x.marks
      (λ a ha e. let below = ltb-true a c.columns-from.result.1 (back-true (nat_le c.columns-from.result.0 a) (nat_lt a c.columns-from.result.1) (c.columns-from.ensures.part a ha ∙ e)) in omega (arith, below, c.loop-x-test.false)) c.loop-x.invariant.done;
}
