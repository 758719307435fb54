use Rattle.std.proofs.Common.{◌≤◌, ◌+◌, ◌<◌, inl, arith}
use Rattle.fix_math.specs.Seen.{rect_seen}
use Rattle.tri_cover.specs.Seen.{triangle_seen}
use Rattle.covered_rows.specs.Covering.{IsOf}
use Rattle.covered_rows.proofs.Covered.{row-more, none-before, all-before, adds-then}
use Rattle.covered_rows.proofs.triangles.push_triangle.Goals as goal

pub loop-row-preserved : goal.loop-row-preserved
loop-row-preserved c =
    let s = c.args.setup.now in
    let row = c.loop-row.row in
    let end = c.lesser_end-end.result in
    let here : row < end = c.loop-row-test.true in
    let both = c.lesser_end-end.ensures.both in
    let high : end ≤ c.rows-first.result.1 = both.0 in
    let cut : end ≤ c.args.cut.y + c.args.cut.h = both.1 in
    let most : c.rows-first.result.1 ≤ c.args.height = c.rows-first.ensures.within in
    let low : c.args.cut.y ≤ row = c.loop-row.invariant.low in
    record {
      keeps = λ r i. c.in_ok-push_row.ensures.keeps r (c.loop-row.invariant.keeps r i);
      low = omega (arith, low);
      adds =
          adds-then (IsOf c.args.coverer.key c.args.coverer.encoder (triangle_seen s.a s.b s.c) (rect_seen c.args.cut) c.args.width c.args.height) c.args.runs.now.items c.loop-row.runs.items _
          c.loop-row.invariant.adds (c.in_ok-push_row.ensures.adds c.args.height (omega (arith, here, high, most)) low (omega (arith, here, cut)));
      has = row-more _ _ c.args.coverer.key c.args.coverer.encoder (triangle_seen s.a s.b s.c) (rect_seen c.args.cut) c.args.width c.args.height c.loop-row.row c.in_ok-push_row.ensures.keeps c.loop-row.invariant.has c.in_ok-push_row.ensures.has;
    }

pub loop-row-init : goal.loop-row-init
loop-row-init c =
    let s = c.args.setup.now in
    record {
      keeps = λ r i. i;
      low = c.greater-row.ensures.both.1;
      adds = λ r i. inl i;
      has = none-before c.args.runs.now.items c.args.coverer.key c.args.coverer.encoder (triangle_seen s.a s.b s.c) (rect_seen c.args.cut) c.args.width c.args.height c.rows-first.result.0 c.greater-row.result
          (λ x y ly covered. (c.rows-first.ensures.covered x y ly covered).0) c.greater-row.ensures.least;
    }

pub returns-clause-has : goal.returns-clause-has
returns-clause-has c =
    let s = c.args.setup.now in
    all-before c.loop-row.runs.items c.args.coverer.key c.args.coverer.encoder (triangle_seen s.a s.b s.c) (rect_seen c.args.cut) c.args.width c.args.height c.rows-first.result.1 c.lesser_end-end.result c.loop-row.row
    (omega (arith, c.loop-row-test.false)) (λ x y ly covered. (c.rows-first.ensures.covered x y ly covered).1) c.lesser_end-end.ensures.most c.loop-row.invariant.has
