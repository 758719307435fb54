use Rattle.std.proofs.Common.{◌<◌, ℕ, ◌+◌, [], slice_index, slice_index_or, sym, ap, ◌∙◌, arith}
use Rattle.gfx_model.specs.Pixel.{pixel_step}
use Rattle.int_raster.specs.Places.{deep_pixel}
use Rattle.int_raster.specs.Tiled.{word_bytes}
use Rattle.int_raster.proofs.Spread.{pixels_more}
use Rattle.int_raster.proofs.Tested.{shaded_step}
use Rattle.int_raster.proofs.gradients.store_window.Goals as goal

pub returns-clause-more : goal.returns-clause-more
returns-clause-more c rule olds deeps plain reach done =
    let s = c.args.span.now in
    let d = c.args.draw.now in
    let t = c.args.setup.now in
    let x = c.args.x in
    let old = λ (j : ℕ). deep_pixel (slice_index_or c.args.colors.now (s.start + x + j) []) (slice_index_or c.args.depths.now (s.start + x + j) []) in
    pixels_more d t s x olds deeps c.args.colors.now c.args.depths.now c.store_four.new.colors c.store_four.new.depths
    c.requires.low c.requires.same done c.store_four.ensures.many
    (λ j h less.
    let near : x + j < s.after = omega (arith, less) in
    shaded_step d t (x + j) s.y (slice_index c.args.four.now.depths j) (word_bytes (slice_index c.args.four.now.colors j)) (old j)
    (deep_pixel (slice_index_or c.store_four.new.colors (s.start + x + j) []) (slice_index_or c.store_four.new.depths (s.start + x + j) []))
    (c.requires.paints j h near) (c.requires.depths j h near)
    (c.store_four.ensures.stored d.state j rule plain.opaque plain.rule reach h less (c.requires.few j h)
    ∙ ap (pixel_step (old j) (record { color = word_bytes (slice_index c.args.four.now.colors j); depth = slice_index c.args.four.now.depths j }) d.state) (sym plain.plain)))
    c.store_four.ensures.rest c.store_four.ensures.others
