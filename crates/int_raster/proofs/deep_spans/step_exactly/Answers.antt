use Rattle.std.proofs.Common.{◌≡◌, Some, ◌+◌, [], slice_index_or, arith, ap, ◌∙◌}
use Rattle.gfx_model.specs.Number.{map_from, u32_at}
use Rattle.pixel_ops.specs.Seen.{pixel_seen}
use Rattle.int_raster.specs.Places.{deep_pixel, deep_pixels, spanned, in_row}
use Rattle.int_raster.specs.Seen.{step_seen}
use Rattle.int_raster.proofs.Changes.{span_none}
use Rattle.int_raster.proofs.Along.{deep_more, stored_step}
use Rattle.int_raster.proofs.deep_spans.step_exactly.Goals as goal

pub loop-x-init : goal.loop-x-init
loop-x-init c =
    span_none (in_row c.args.span.now.start c.args.span.now.y (step_seen c.args.draw.now c.args.setup.now)) (c.args.span.now.start + c.args.span.now.first) (deep_pixels c.args.colors.now c.args.depths.now)

pub loop-x-preserved : goal.loop-x-preserved
loop-x-preserved c =
    let f = step_seen c.args.draw.now c.args.setup.now in
    let color = slice_index_or c.loop-x.colors (c.args.span.now.start + c.loop-x.x) [] in
    let texel = slice_index_or c.loop-x.depths (c.args.span.now.start + c.loop-x.x) [] in
    let stepped : pixel_seen c.stepped-after.result ≡ f c.loop-x.x c.args.span.now.y (deep_pixel color texel) =
    c.stepped-after.ensures ∙ ap (λ n. f c.loop-x.x c.args.span.now.y (record { color = color; depth = Some n })) c.depth_word-word.ensures in
    deep_more f c.args.span.now.start c.args.span.now.y c.args.span.now.first c.loop-x.x c.args.colors.now c.loop-x.colors c.args.depths.now c.loop-x.depths c.stepped-after.result.color c.depth_texel.result
    c.loop-x.invariant c.loop-x.auto.x (omega (arith, c.loop-x-test.true, c.requires.inside)) c.requires.same c.loop-x.auto.colors c.loop-x.auto.depths
    (stored_step c.args.draw.now c.args.setup.now c.loop-x.x c.args.span.now.y c.stepped-after.result.color c.depth_texel.result c.stepped-after.result.depth (u32_at texel 0) color stepped c.depth_texel.ensures)

pub returns : goal.returns
returns c =
    let last : c.loop-x.x ≡ c.args.span.now.after = omega arith in
    c.loop-x.invariant
    ∙ ap (λ n. map_from (spanned (in_row c.args.span.now.start c.args.span.now.y (step_seen c.args.draw.now c.args.setup.now)) (c.args.span.now.start + c.args.span.now.first) (c.args.span.now.start + n)) 0 (deep_pixels c.args.colors.now c.args.depths.now)) last
