use Rattle.std.proofs.Common.{◌≡◌, ◌+◌, arith, ap, ◌∙◌}
use Rattle.gfx_model.specs.Number.{map_from}
use Rattle.int_raster.specs.Places.{spanned, in_row}
use Rattle.int_raster.specs.Seen.{color_seen}
use Rattle.int_raster.proofs.Changes.{span_none}
use Rattle.int_raster.proofs.Along.{color_more}
use Rattle.int_raster.proofs.colors.step_exactly.Goals as goal

pub loop-x-init : goal.loop-x-init
loop-x-init c =
    span_none (in_row c.args.span.now.start c.args.span.now.y (color_seen c.args.draw.now c.args.setup.now)) (c.args.span.now.start + c.args.span.now.first) c.args.colors.now

pub loop-x-preserved : goal.loop-x-preserved
loop-x-preserved c =
    color_more (color_seen c.args.draw.now c.args.setup.now) c.args.span.now.start c.args.span.now.y c.args.span.now.first c.loop-x.x c.args.colors.now c.loop-x.colors c.stepped-after.result.color
    c.loop-x.invariant c.loop-x.auto.x (omega (arith, c.loop-x-test.true, c.requires.inside))
    (ap (λ q. q.color) c.stepped-after.ensures)

pub returns : goal.returns
returns c =
    let last : c.loop-x.x ≡ c.args.span.now.after = omega arith in
    c.loop-x.invariant
    ∙ ap (λ n. map_from (spanned (in_row c.args.span.now.start c.args.span.now.y (color_seen c.args.draw.now c.args.setup.now)) (c.args.span.now.start + c.args.span.now.first) (c.args.span.now.start + n)) 0 c.args.colors.now) last
