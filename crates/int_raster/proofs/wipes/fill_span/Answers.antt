use Rattle.std.proofs.Common.{◌≡◌, ◌<◌, ◌+◌, arith, refl, ap, ◌∙◌}
use Rattle.gfx_model.specs.Number.{map_from}
use Rattle.int_raster.specs.Places.{spanned, in_row}
use Rattle.int_raster.specs.Wiping.{one_texel}
use Rattle.int_raster.proofs.Changes.{span_none}
use Rattle.int_raster.proofs.Along.{color_more}
use Rattle.int_raster.proofs.wipes.fill_span.Goals as goal

pub loop-x-init : goal.loop-x-init
loop-x-init c = span_none (in_row c.args.span.now.start c.args.span.now.y (one_texel c.args.texel)) (c.args.span.now.start + c.args.span.now.first) c.args.texels.now

pub loop-x-preserved : goal.loop-x-preserved
loop-x-preserved c =
    let s = c.args.span.now in
    let here : c.loop-x.x < s.after = c.loop-x-test.true in
    color_more (one_texel c.args.texel) s.start s.y s.first c.loop-x.x c.args.texels.now c.loop-x.texels c.args.texel
    c.loop-x.invariant c.loop-x.auto.x (omega (arith, here, c.requires.inside)) refl

pub returns : goal.returns
returns c =
    let last : c.loop-x.x ≡ c.args.span.now.after = omega arith in
    c.loop-x.invariant
    ∙ ap (λ n. map_from (spanned (in_row c.args.span.now.start c.args.span.now.y (one_texel c.args.texel)) (c.args.span.now.start + c.args.span.now.first) (c.args.span.now.start + n)) 0 c.args.texels.now) last
