use Rattle.std.proofs.Common.{◌≡◌, ◌+◌, ◌-◌, [], slice_index_or, refl, ap, ◌∙◌, arith}
use Rattle.gfx_model.specs.Pixel.{stored_color}
use Rattle.int_raster.specs.Places.{spanned, in_row}
use Rattle.int_raster.specs.Seen.{color_seen}
use Rattle.int_raster.proofs.Changes.{span_none}
use Rattle.int_raster.proofs.Spread.{colors_more}
use Rattle.int_raster.proofs.Windows.{cut_behind}
use Rattle.int_raster.proofs.fours.color_by_four.Goals as goal

pub loop-x-init : goal.loop-x-init
loop-x-init g c =
    let s = c.args.span.now in
    record {
      low = omega arith;
      fours = omega arith;
      many = refl;
      done = span_none (spanned (in_row s.start s.y (color_seen c.args.draw.now c.args.setup.now)) 0 (s.start + s.after)) (s.start + s.first) c.args.colors.now;
    }

pub loop-x-preserved : goal.loop-x-preserved
loop-x-preserved g c =
    let s = c.args.span.now in
    let i = c.loop-x.invariant in
    let put = c.store_colors.ensures in
    record {
      low = omega (arith, i.low);
      fours = omega (arith, i.low, i.fours);
      many = put.many ∙ i.many;
      done = colors_more c.args.draw.now c.args.setup.now s c.loop-x.x c.args.colors.now c.loop-x.colors c.store_colors.new.colors i.low i.done put.many
          (λ j four less.
          let place : c.loop-x.x - s.first + j ≡ c.loop-x.x + j - s.first = omega (arith, i.low) in
          put.stored c.args.draw.now.state j c.requires.store four four
          ∙ ap (λ k. stored_color c.args.draw.now.state k (slice_index_or c.loop-x.colors (s.start + c.loop-x.x + j) []))
          (c.words_of-four.ensures.bytes j four ∙ ap (λ n. slice_index_or c.args.paints.now n []) place ∙ c.requires.paints (c.loop-x.x + j) (omega (arith, i.low)) (omega (arith, less))))
          (λ j four more. absurd (omega (arith, four, more)))
          put.others;
    }

pub returns-then-x-after : goal.returns-then-x-after
returns-then-x-after g c =
    let s = c.args.span.now in
    let i = c.loop-x.invariant in
    let put = c.store_colors-then-x-after.ensures in
    colors_more c.args.draw.now c.args.setup.now s c.loop-x.x c.args.colors.now c.loop-x.colors c.store_colors-then-x-after.new.colors i.low i.done put.many
    (λ j four less.
    let place : c.loop-x.x - s.first + j ≡ c.loop-x.x + j - s.first = omega (arith, i.low) in
    put.stored c.args.draw.now.state j c.requires.store four less
    ∙ ap (λ k. stored_color c.args.draw.now.state k (slice_index_or c.loop-x.colors (s.start + c.loop-x.x + j) []))
    (c.words_of-four-then-x-after.ensures.bytes j four ∙ ap (λ n. slice_index_or c.args.paints.now n []) place ∙ c.requires.paints (c.loop-x.x + j) (omega (arith, i.low)) (omega (arith, less))))
    put.rest put.others
    ∙ cut_behind (in_row s.start s.y (color_seen c.args.draw.now c.args.setup.now)) (s.start + s.first) (s.start + s.after) (s.start + (c.loop-x.x + 4)) c.args.colors.now (omega arith)

pub returns-else-x-after : goal.returns-else-x-after
returns-else-x-after g c =
    let s = c.args.span.now in
    c.loop-x.invariant.done ∙ cut_behind (in_row s.start s.y (color_seen c.args.draw.now c.args.setup.now)) (s.start + s.first) (s.start + s.after) (s.start + c.loop-x.x) c.args.colors.now (omega arith)
