use Rattle.std.proofs.Common.{◌≡◌, ◌≤◌, ◌<◌, ◌+◌, ◌-◌, [], slice_index, slice_index_or, refl, sym, ap, ◌∙◌, arith}
use Rattle.gfx_model.specs.Pixel.{pixel_step}
use Rattle.int_raster.specs.Places.{deep_pixel, deep_pixels, spanned, in_row}
use Rattle.int_raster.specs.Seen.{step_seen}
use Rattle.int_raster.specs.Tiled.{word_bytes}
use Rattle.int_raster.proofs.Changes.{span_none}
use Rattle.int_raster.proofs.Spread.{pixels_more}
use Rattle.int_raster.proofs.Tested.{shaded_step}
use Rattle.int_raster.proofs.Windows.{cut_behind}
use Rattle.int_raster.proofs.fours.store_by_four.Goals as goal

pub loop-x-init : goal.loop-x-init
loop-x-init g c =
    let s = c.args.span.now in
    record {
      low = omega arith;
      fours = omega arith;
      many = refl;
      deep = refl;
      done = span_none (spanned (in_row s.start s.y (step_seen c.args.draw.now c.args.setup.now)) 0 (s.start + s.after)) (s.start + s.first) (deep_pixels c.args.colors.now c.args.depths.now);
    }

pub loop-x-preserved : goal.loop-x-preserved
loop-x-preserved g c =
    let s = c.args.span.now in
    let i = c.loop-x.invariant in
    record {
      low = omega (arith, i.low);
      fours = omega (arith, i.low, i.fours);
      many = c.store_four.ensures.many.0 ∙ i.many;
      deep = c.store_four.ensures.many.1 ∙ i.deep;
      done = pixels_more c.args.draw.now c.args.setup.now s c.loop-x.x c.args.colors.now c.args.depths.now c.loop-x.colors c.loop-x.depths c.store_four.new.colors c.store_four.new.depths
          i.low (i.deep ∙ c.requires.same ∙ sym i.many) i.done c.store_four.ensures.many
          (λ j h less.
          let place : c.loop-x.x - s.first + j ≡ c.loop-x.x + j - s.first = omega (arith, i.low) in
          let low : s.first ≤ c.loop-x.x + j = omega (arith, i.low) in
          let near : c.loop-x.x + j < s.after = omega (arith, less) in
          let deep = c.four_at-four.ensures.depths j h ∙ ap (λ n. slice_index_or c.args.news.now n 0) place in
          shaded_step c.args.draw.now c.args.setup.now (c.loop-x.x + j) s.y (slice_index c.four_at-four.result.depths j) (word_bytes (slice_index c.four_at-four.result.colors j))
          (deep_pixel (slice_index_or c.loop-x.colors (s.start + c.loop-x.x + j) []) (slice_index_or c.loop-x.depths (s.start + c.loop-x.x + j) []))
          (deep_pixel (slice_index_or c.store_four.new.colors (s.start + c.loop-x.x + j) []) (slice_index_or c.store_four.new.depths (s.start + c.loop-x.x + j) []))
          (c.four_at-four.ensures.colors j h ∙ ap (λ n. slice_index_or c.args.paints.now n []) place ∙ c.requires.paints (c.loop-x.x + j) low near)
          (deep ∙ c.requires.depths (c.loop-x.x + j) low near)
          (c.store_four.ensures.stored c.args.draw.now.state j c.args.rule.now c.requires.store c.requires.rule c.reach_of-reach.ensures h h (omega (arith, deep, c.requires.few (c.loop-x.x + j) low near))
          ∙ ap (pixel_step (deep_pixel (slice_index_or c.loop-x.colors (s.start + c.loop-x.x + j) []) (slice_index_or c.loop-x.depths (s.start + c.loop-x.x + j) [])) (record { color = word_bytes (slice_index c.four_at-four.result.colors j); depth = slice_index c.four_at-four.result.depths j }) c.args.draw.now.state) (sym c.requires.plain)))
          (λ j four more. absurd (omega (arith, four, more)))
          c.store_four.ensures.others;
    }

pub returns-then-x-after : goal.returns-then-x-after
returns-then-x-after g c =
    let s = c.args.span.now in
    let i = c.loop-x.invariant in
    pixels_more c.args.draw.now c.args.setup.now s c.loop-x.x c.args.colors.now c.args.depths.now c.loop-x.colors c.loop-x.depths c.store_four-then-x-after.new.colors c.store_four-then-x-after.new.depths
    i.low (i.deep ∙ c.requires.same ∙ sym i.many) i.done c.store_four-then-x-after.ensures.many
    (λ j h less.
    let place : c.loop-x.x - s.first + j ≡ c.loop-x.x + j - s.first = omega (arith, i.low) in
    let low : s.first ≤ c.loop-x.x + j = omega (arith, i.low) in
    let near : c.loop-x.x + j < s.after = omega (arith, less) in
    let deep = c.four_at-four-then-x-after.ensures.depths j h ∙ ap (λ n. slice_index_or c.args.news.now n 0) place in
    shaded_step c.args.draw.now c.args.setup.now (c.loop-x.x + j) s.y (slice_index c.four_at-four-then-x-after.result.depths j) (word_bytes (slice_index c.four_at-four-then-x-after.result.colors j))
    (deep_pixel (slice_index_or c.loop-x.colors (s.start + c.loop-x.x + j) []) (slice_index_or c.loop-x.depths (s.start + c.loop-x.x + j) []))
    (deep_pixel (slice_index_or c.store_four-then-x-after.new.colors (s.start + c.loop-x.x + j) []) (slice_index_or c.store_four-then-x-after.new.depths (s.start + c.loop-x.x + j) []))
    (c.four_at-four-then-x-after.ensures.colors j h ∙ ap (λ n. slice_index_or c.args.paints.now n []) place ∙ c.requires.paints (c.loop-x.x + j) low near)
    (deep ∙ c.requires.depths (c.loop-x.x + j) low near)
    (c.store_four-then-x-after.ensures.stored c.args.draw.now.state j c.args.rule.now c.requires.store c.requires.rule c.reach_of-reach.ensures h less (omega (arith, deep, c.requires.few (c.loop-x.x + j) low near))
    ∙ ap (pixel_step (deep_pixel (slice_index_or c.loop-x.colors (s.start + c.loop-x.x + j) []) (slice_index_or c.loop-x.depths (s.start + c.loop-x.x + j) [])) (record { color = word_bytes (slice_index c.four_at-four-then-x-after.result.colors j); depth = slice_index c.four_at-four-then-x-after.result.depths j }) c.args.draw.now.state) (sym c.requires.plain)))
    c.store_four-then-x-after.ensures.rest c.store_four-then-x-after.ensures.others
    ∙ cut_behind (in_row s.start s.y (step_seen c.args.draw.now c.args.setup.now)) (s.start + s.first) (s.start + s.after) (s.start + (c.loop-x.x + 4)) (deep_pixels c.args.colors.now c.args.depths.now) (omega arith)

pub returns-else-x-after : goal.returns-else-x-after
returns-else-x-after g c =
    let s = c.args.span.now in
    c.loop-x.invariant.done ∙ cut_behind (in_row s.start s.y (step_seen c.args.draw.now c.args.setup.now)) (s.start + s.first) (s.start + s.after) (s.start + c.loop-x.x) (deep_pixels c.args.colors.now c.args.depths.now) (omega arith)
