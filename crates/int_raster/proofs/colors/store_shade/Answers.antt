use Rattle.std.proofs.Common.{◌≡◌, ◌<◌, ◌+◌, ◌/◌, ◌^◌, [], ◌∷◌, slice_index_or, arith, ap, ◌∙◌}
use Rattle.gfx_model.specs.Number.{map_from}
use Rattle.gfx_model.specs.Vertex.{Color}
use Rattle.int_raster.specs.Places.{spanned, in_row}
use Rattle.int_raster.specs.Painted.{shade_at}
use Rattle.int_raster.specs.Seen.{color_seen}
use Rattle.int_raster.proofs.Changes.{span_none}
use Rattle.int_raster.proofs.Along.{color_more, opaque_color}
use Rattle.int_raster.proofs.Ramped.{ramp_more}
use Rattle.int_raster.proofs.colors.store_shade.Goals as goal

pub loop-x-init : goal.loop-x-init
loop-x-init c = record {
  red = c.value_at-red.ensures;
  green = c.value_at-green.ensures;
  blue = c.value_at-blue.ensures;
  alpha = c.value_at-alpha.ensures;
  done = span_none (in_row c.args.span.now.start c.args.span.now.y (color_seen c.args.draw.now c.args.setup.now)) (c.args.span.now.start + c.args.span.now.first) c.args.colors.now;
}

pub loop-x-preserved : goal.loop-x-preserved
loop-x-preserved c =
    let s = c.args.span.now in
    let r = c.args.shade.now in
    let i = c.loop-x.invariant in
    let here : c.loop-x.x < s.after = c.loop-x-test.true in
    let bytes : Color = c.loop-x.red / 2 ^ 56 ∷ c.loop-x.green / 2 ^ 56 ∷ c.loop-x.blue / 2 ^ 56 ∷ c.loop-x.alpha / 2 ^ 56 ∷ [] in
    let shade : bytes ≡ shade_at r c.loop-x.x s.y = (λ j. i.red j / 2 ^ 56 ∷ i.green j / 2 ^ 56 ∷ i.blue j / 2 ^ 56 ∷ i.alpha j / 2 ^ 56 ∷ []) in
    record {
      red = ramp_more r.red c.loop-x.x s.y c.loop-x.red i.red;
      green = ramp_more r.green c.loop-x.x s.y c.loop-x.green i.green;
      blue = ramp_more r.blue c.loop-x.x s.y c.loop-x.blue i.blue;
      alpha = ramp_more r.alpha c.loop-x.x s.y c.loop-x.alpha i.alpha;
      done = color_more (color_seen c.args.draw.now c.args.setup.now) s.start s.y s.first c.loop-x.x c.args.colors.now c.loop-x.colors c.packed.result
          i.done c.loop-x.auto.x (omega (arith, here, c.requires.inside))
          (c.packed.ensures ∙ opaque_color c.args.draw.now c.args.setup.now c.loop-x.x s.y bytes (slice_index_or c.loop-x.colors (s.start + c.loop-x.x) []) c.requires.opaque
          (shade ∙ c.requires.paints c.loop-x.x c.loop-x.auto.x here));
    }

pub returns : goal.returns
returns c =
    let last : c.loop-x.x ≡ c.args.span.now.after = omega arith in
    c.loop-x.invariant.done
    ∙ ap (λ n. map_from (spanned (in_row c.args.span.now.start c.args.span.now.y (color_seen c.args.draw.now c.args.setup.now)) (c.args.span.now.start + c.args.span.now.first) (c.args.span.now.start + n)) 0 c.args.colors.now) last
