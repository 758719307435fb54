use Rattle.std.proofs.Common.{◌≡◌, ◌<◌, [], slice_index_or, ◌+◌, arith, ap, ◌∙◌}
use Rattle.gfx_model.specs.Number.{map_from}
use Rattle.gfx_model.specs.Pixel.{stored_color}
use Rattle.int_raster.specs.Places.{spanned, in_row}
use Rattle.int_raster.specs.Seen.{color_seen}
use Rattle.int_raster.proofs.Changes.{span_none}
use Rattle.int_raster.proofs.Along.{color_more}
use Rattle.int_raster.proofs.colors.color_each.Goals as goal

pub loop-x-init : goal.loop-x-init
loop-x-init g c =
    span_none (in_row c.args.span.now.start c.args.span.now.y (color_seen c.args.draw.now c.args.setup.now)) (c.args.span.now.start + c.args.span.now.first) c.args.colors.now

pub loop-x-preserved : goal.loop-x-preserved
loop-x-preserved g c =
    let s = c.args.span.now in
    let here : c.loop-x.x < s.after = c.loop-x-test.true in
    color_more (color_seen c.args.draw.now c.args.setup.now) s.start s.y s.first c.loop-x.x c.args.colors.now c.loop-x.colors c.stored_over.result
    c.loop-x.invariant c.loop-x.auto.x (omega (arith, here, c.requires.inside))
    (c.stored_over.ensures c.args.draw.now.state c.requires.store
    ∙ ap (λ k. stored_color c.args.draw.now.state k (slice_index_or c.loop-x.colors (s.start + c.loop-x.x) []))
    (c.requires.paints c.loop-x.x c.loop-x.auto.x here))

pub returns : goal.returns
returns g c =
    let last : c.loop-x.x ≡ c.args.span.now.after = omega arith in
    c.loop-x.invariant
    ∙ ap (λ n. map_from (spanned (in_row c.args.span.now.start c.args.span.now.y (color_seen c.args.draw.now c.args.setup.now)) (c.args.span.now.start + c.args.span.now.first) (c.args.span.now.start + n)) 0 c.args.colors.now) last
