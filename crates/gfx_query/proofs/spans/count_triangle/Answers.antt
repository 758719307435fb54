use Rattle.std.proofs.Common.{◌≡◌, ◌<◌, ◌≤◌, ◌+◌, ◌*◌, length, refl, subst, arith}
use Rattle.std.proofs.Math.Nat.{mul-le-mul_right}
use Rattle.gfx_model.proofs.PartlyMapped.{partly}
use Rattle.gfx_model.specs.Raster.{covers}
use Rattle.gfx_query.specs.Standing.{Stand, facing_with, place_change}
use Rattle.gfx_query.proofs.Places.{rows_free, columns_free, stand_over, stand_done, outside_left, outside_right, between}
use Rattle.gfx_query.proofs.spans.count_triangle.Goals as goal

pub loop-y-init : goal.loop-y-init
loop-y-init c =
    let sides = c.args.sides.now in
    let f = facing_with c.args.tests.now.stencil c.args.setup.now in
    let top = c.rows-top.result.0 in
    record {
      edges = c.sides-edges.ensures;
      high = c.rows-top.ensures.first;
      few = omega arith;
      counted = λ n ps s.
          let none : n ≡ n + 0 = omega arith in
          stand_over sides.width c.args.tests.now.state f c.args.words.now n (n + 0) 0 (top * sides.width) ps none (omega arith)
          (λ k low high. rows_free sides.width sides.height 0 top f sides.some_columns c.rows-top.ensures.first
          (λ x y le lt covered. let within = c.rows-top.ensures.covered x y (omega (arith, lt, c.rows-top.ensures.first)) covered in omega (arith, lt, within.0)) k (omega arith) high) s;
    }

pub count_span-passed-requires-clause-covered : goal.count_span-passed-requires-clause-covered
count_span-passed-requires-clause-covered c =
    let f = facing_with c.args.tests.now.stencil c.args.setup.now in
    λ x low high. between (covers f.triangle x c.loop-y.y) c.columns_of-first.result.0 c.columns_of-first.result.1 x (c.columns_of-first.ensures.columns x (omega (arith, high, c.columns_of-first.ensures.within))) low high

pub count_span-passed-requires-clause-depths : goal.count_span-passed-requires-clause-depths
count_span-passed-requires-clause-depths c =
    let f = facing_with c.args.tests.now.stencil c.args.setup.now in
    λ x low high.
    let inside : x < c.args.sides.now.width = omega (arith, high, c.columns_of-first.ensures.within) in
    c.wide_depth-depth.ensures x c.loop-y.y (omega (arith, inside, c.args.sides.now.few_columns)) (omega (arith, c.loop-y-test.true, c.rows-top.ensures.within, c.args.sides.now.few_rows))
    (between (covers f.triangle x c.loop-y.y) c.columns_of-first.result.0 c.columns_of-first.result.1 x (c.columns_of-first.ensures.columns x inside) low high)

pub loop-y-preserved : goal.loop-y-preserved
loop-y-preserved c =
    let sides = c.args.sides.now in
    let w = sides.width in
    let state = c.args.tests.now.state in
    let f = facing_with c.args.tests.now.stencil c.args.setup.now in
    let y = c.loop-y.y in
    let first = c.columns_of-first.result.0 in
    let after = c.columns_of-first.result.1 in
    let columns = c.columns_of-first.ensures.columns in
    let within = c.columns_of-first.ensures.within in
    let order = c.columns_of-first.ensures.order in
    let passed = c.loop-y.passed in
    let more = c.count_span-passed.result in
    record {
      edges = c.next_sides-edges.ensures;
      high = omega (arith, c.loop-y-test.true, c.rows-top.ensures.within);
      few = omega (arith, c.loop-y.invariant.few, c.count_span-passed.ensures.few, within, sides.few_columns);
      counted = λ n ps s.
          let none : n + passed ≡ n + passed = refl in
          let start : y * w ≤ y * w + first = omega arith in
          let bottom : y * w + after ≤ y * w + w = omega (arith, within) in
          let next : y * w + w ≡ (y + 1) * w = omega arith in
          let sum : n + passed + more ≡ n + (passed + more) = omega arith in
          let left = stand_over w state f c.loop-y.words (n + passed) (n + passed) (y * w) (y * w + first) ps none start
          (λ k low high. columns_free w y 0 first f (omega (arith, order, within)) (λ x le lt. outside_left (covers f.triangle x y) first after x (columns x (omega (arith, lt, order, within))) lt) k (omega (arith, low)) high)
          (c.loop-y.invariant.counted n ps s) in
          let spanned = c.count_span-passed.ensures.counted (n + passed) ps left in
          let right = stand_over w state f c.count_span-passed.new.words (n + passed + more) (n + (passed + more)) (y * w + after) (y * w + w) ps sum bottom
          (λ k low high. columns_free w y after w f (omega arith) (λ x le lt. outside_right (covers f.triangle x y) first after x (columns x lt) le) k low high)
          spanned in
          subst (λ m. Stand c.count_span-passed.new.words (n + (passed + more)) (partly (place_change w state f) 0 m ps)) next right;
    }

pub returns-clause-few : goal.returns-clause-few
returns-clause-few c = omega (arith, c.loop-y.invariant.few, c.loop-y.invariant.high, c.args.sides.now.few_rows)

pub returns-clause-counted : goal.returns-clause-counted
returns-clause-counted c =
    let sides = c.args.sides.now in
    let w = sides.width in
    let state = c.args.tests.now.state in
    let f = facing_with c.args.tests.now.stencil c.args.setup.now in
    let y = c.loop-y.y in
    let high : y ≤ sides.height = c.loop-y.invariant.high in
    let long : sides.height * w ≡ length c.args.words.now = omega (arith, c.requires) in
    λ n ps s.
    let same : n + c.loop-y.passed ≡ n + c.loop-y.passed = refl in
    stand_done (place_change w state f) c.args.words.now c.loop-y.words n (n + c.loop-y.passed) (sides.height * w) ps s long
    (stand_over w state f c.loop-y.words (n + c.loop-y.passed) (n + c.loop-y.passed) (y * w) (sides.height * w) ps same (mul-le-mul_right w high)
    (λ k low up. rows_free w sides.height y sides.height f sides.some_columns (omega arith)
    (λ x q le lt covered. let within = c.rows-top.ensures.covered x q lt covered in omega (arith, c.loop-y-test.false, le, within.1)) k low up)
    (c.loop-y.invariant.counted n ps s))
