use Rattle.std.proofs.Common.{◌+◌, [], slice_index_or, refl, ap, ◌∙◌, arith}
use Rattle.std.specs.Prelude.{pos}
use Rattle.gfx_model.specs.Pixel.{stored_color}
use Rattle.gfx_model.specs.Raster.{sample}
use Rattle.int_raster.specs.Painted.{place_at}
use Rattle.int_raster.specs.Places.{spanned, in_row}
use Rattle.int_raster.specs.Seen.{color_seen}
use Rattle.int_raster.proofs.Changes.{span_none}
use Rattle.int_raster.proofs.Spread.{colors_more}
use Rattle.int_raster.proofs.Windows.{cut_behind}
use Rattle.int_raster.proofs.textured.texture_by_four.Goals as goal

pub loop-x-init : goal.loop-x-init
loop-x-init c =
    let s = c.args.span.now in
    record {
      low = omega arith;
      many = refl;
      bits = c.bits_at-bits.ensures;
      done = span_none (spanned (in_row s.start s.y (color_seen c.args.draw.now c.args.setup.now)) 0 (s.start + s.after)) (s.start + s.first) c.args.colors.now;
    }

pub loop-x-preserved : goal.loop-x-preserved
loop-x-preserved c =
    let s = c.args.span.now in
    let p = c.args.at.now in
    let x = c.loop-x.x in
    let i = c.loop-x.invariant in
    let put = c.store_colors.ensures in
    record {
      low = omega (arith, i.low);
      many = put.many ∙ i.many;
      bits = c.texels_on.ensures.next p x s.y i.bits c.bits_gained-by.ensures c.requires.exact;
      done = colors_more c.args.draw.now c.args.setup.now s x c.args.colors.now c.loop-x.colors c.store_colors.new.colors i.low i.done put.many
          (λ j four less.
          put.stored c.args.draw.now.state j c.requires.opaque four less
          ∙ ap (λ k. stored_color c.args.draw.now.state k (slice_index_or c.loop-x.colors (s.start + x + j) []))
          (c.texels_on.ensures.texels p x s.y j i.bits c.bits_gained-by.ensures c.requires.exact four
          ∙ ap (λ t. sample t (pos (place_at p.u (x + j) s.y)) (pos (place_at p.v (x + j) s.y))) c.sampler_of-sampler.ensures
          ∙ c.requires.paints (x + j) (omega (arith, i.low)) (omega (arith, less))))
          put.rest put.others;
    }

pub returns : goal.returns
returns c =
    let s = c.args.span.now in
    c.loop-x.invariant.done ∙ cut_behind (in_row s.start s.y (color_seen c.args.draw.now c.args.setup.now)) (s.start + s.first) (s.start + s.after) (s.start + c.loop-x.x) c.args.colors.now (omega arith)
