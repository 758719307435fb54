use Rattle.std.proofs.Common.{◌≡◌, ◌<◌, ◌+◌, ◌-◌, Some, [], slice_index_or, arith, ap, ◌∙◌}
use Rattle.gfx_model.specs.Number.{map_from, u32_at}
use Rattle.pixel_ops.specs.Seen.{pixel_seen}
use Rattle.int_raster.specs.Places.{deep_pixel, deep_pixels, spanned, in_row}
use Rattle.int_raster.specs.Seen.{step_seen}
use Rattle.int_raster.proofs.Changes.{span_none}
use Rattle.int_raster.proofs.Along.{deep_more, stored_step}
use Rattle.gfx_model.specs.Pixel.{pixel_step}
use Rattle.int_raster.proofs.Tested.{shaded_step}
use Rattle.int_raster.proofs.deep_spans.step.Goals as goal

pub loop-x-init : goal.loop-x-init
loop-x-init c =
    span_none (in_row c.args.span.now.start c.args.span.now.y (step_seen c.args.draw.now c.args.setup.now)) (c.args.span.now.start + c.args.span.now.first) (deep_pixels c.args.colors.now c.args.depths.now)

pub loop-x-preserved : goal.loop-x-preserved
loop-x-preserved c =
    let s = c.args.span.now in
    let here : c.loop-x.x < s.after = c.loop-x-test.true in
    let old = slice_index_or c.loop-x.colors (s.start + c.loop-x.x) [] in
    let before = slice_index_or c.loop-x.depths (s.start + c.loop-x.x) [] in
    let f = (step_seen c.args.draw.now c.args.setup.now) in
    let stepped : pixel_seen c.stepped_by-after.result ≡ f c.loop-x.x s.y (deep_pixel old before) =
    shaded_step c.args.draw.now c.args.setup.now c.loop-x.x s.y (slice_index_or c.args.news.now (c.loop-x.x - s.first) 0) (slice_index_or c.args.paints.now (c.loop-x.x - s.first) []) (record { color = old; depth = Some c.depth_word-word.result }) (pixel_seen c.stepped_by-after.result)
    (c.requires.paints c.loop-x.x c.loop-x.auto.x here)
    (c.requires.depths c.loop-x.x c.loop-x.auto.x here)
    (c.stepped_by-after.ensures ∙ ap (pixel_step (record { color = old; depth = Some c.depth_word-word.result }) (record { color = slice_index_or c.args.paints.now (c.loop-x.x - s.first) []; depth = slice_index_or c.args.news.now (c.loop-x.x - s.first) 0 }) c.args.draw.now.state) c.stencil_of-stencil.ensures)
    ∙ ap (λ n. f c.loop-x.x s.y (record { color = old; depth = Some n })) c.depth_word-word.ensures in
    deep_more (step_seen c.args.draw.now c.args.setup.now) s.start s.y s.first c.loop-x.x c.args.colors.now c.loop-x.colors c.args.depths.now c.loop-x.depths c.stepped_by-after.result.color c.depth_texel.result
    c.loop-x.invariant c.loop-x.auto.x (omega (arith, here, c.requires.inside)) c.requires.same c.loop-x.auto.colors c.loop-x.auto.depths
    (stored_step c.args.draw.now c.args.setup.now c.loop-x.x s.y c.stepped_by-after.result.color c.depth_texel.result c.stepped_by-after.result.depth (u32_at before 0) old stepped c.depth_texel.ensures)

pub returns : goal.returns
returns c =
    let last : c.loop-x.x ≡ c.args.span.now.after = omega arith in
    c.loop-x.invariant
    ∙ ap (λ n. map_from (spanned (in_row c.args.span.now.start c.args.span.now.y (step_seen c.args.draw.now c.args.setup.now)) (c.args.span.now.start + c.args.span.now.first) (c.args.span.now.start + n)) 0 (deep_pixels c.args.colors.now c.args.depths.now)) last
