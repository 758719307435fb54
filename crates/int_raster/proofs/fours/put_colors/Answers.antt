use Rattle.std.proofs.Common.{◌+◌, ◌%◌, ◌^◌, nat_lt, [], slice_index, slice_index_or, ap, ◌∙◌}
use Rattle.std.proofs.lemmas.Bool.{lt-ltb, le-ltb}
use Rattle.gfx_model.specs.Pixel.{stored_color}
use Rattle.int_raster.specs.Tiled.{word_bytes, is_within}
use Rattle.int_raster.proofs.Tiled.{lane_over, lane_kept}
use Rattle.int_raster.proofs.fours.put_colors.Goals as goal

pub returns-clause-stored : goal.returns-clause-stored
returns-clause-stored g c state j meets h less =
    lane_over (nat_lt j c.args.left) (is_within c.args.reach.now.least c.args.reach.now.more (slice_index c.args.four.now.depths j) (slice_index c.args.words j % 2 ^ 24))
    (slice_index c.four_over-over.result j) (slice_index c.words_of-old.result j) (slice_index c.kept_within.result j)
    (slice_index_or c.put_words.new.texels (c.args.at + j) []) (stored_color state (word_bytes (slice_index c.args.four.now.colors j)) (slice_index_or c.args.colors.now (c.args.at + j) [])) (slice_index_or c.args.colors.now (c.args.at + j) [])
    (lt-ltb j c.args.left less) (c.put_words.ensures.bytes j h) (c.kept_within.ensures j h)
    (c.four_over-over.ensures state j meets h ∙ ap (stored_color state (word_bytes (slice_index c.args.four.now.colors j))) (c.words_of-old.ensures.bytes j h))
    (c.words_of-old.ensures.bytes j h)

pub returns-clause-rest : goal.returns-clause-rest
returns-clause-rest g c j h more =
    lane_kept (nat_lt j c.args.left) (is_within c.args.reach.now.least c.args.reach.now.more (slice_index c.args.four.now.depths j) (slice_index c.args.words j % 2 ^ 24))
    (slice_index c.four_over-over.result j) (slice_index c.words_of-old.result j) (slice_index c.kept_within.result j)
    (slice_index_or c.put_words.new.texels (c.args.at + j) []) (slice_index_or c.args.colors.now (c.args.at + j) [])
    (le-ltb j c.args.left more) (c.put_words.ensures.bytes j h) (c.kept_within.ensures j h) (c.words_of-old.ensures.bytes j h)
