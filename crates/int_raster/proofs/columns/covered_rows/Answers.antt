use Rattle.std.proofs.Common.{rules, ◌≡◌, min, max, arith}
use Rattle.int_raster.proofs.Covered.{covered_more}
use Rattle.int_raster.proofs.columns.covered_rows.Goals as goal

pub loop-setup-init : goal.loop-setup-init
loop-setup-init c i x y s h = absurd (omega (arith, h))

pub loop-setup-preserved : goal.loop-setup-preserved
loop-setup-preserved c =
    let low : c.min-top.result ≡ min c.loop-setup.top c.rows-first.result.0 = search rules in
    let high : c.max-bottom.result ≡ max c.loop-setup.bottom c.rows-first.result.1 = search rules in
    covered_more c.args.triangles.now c.loop-setup.top c.loop-setup.bottom c.rows-first.result.0 c.rows-first.result.1 c.min-top.result c.max-bottom.result c.loop-setup.setup-index c.setup-item.result
    c.loop-setup.invariant c.loop-setup-test.true c.setup-item.is (omega (arith, low)) (omega (arith, low)) (omega (arith, high)) (omega (arith, high)) c.rows-first.ensures.covered
