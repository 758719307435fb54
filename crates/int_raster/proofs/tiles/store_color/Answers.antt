use Rattle.std.proofs.Common.{◌%◌, ◌^◌, ◌+◌, [], ◌∷◌, nat_lt, slice_index, slice_index_or}
use Rattle.std.proofs.lemmas.Bool.{lt-ltb, le-ltb}
use Rattle.int_raster.specs.Tiled.{is_among}
use Rattle.int_raster.proofs.Tiled.{lane_stored, lane_kept, splat_lane}
use Rattle.int_raster.proofs.tiles.store_color.Goals as goal

pub returns-clause-stored : goal.returns-clause-stored
returns-clause-stored c j h less =
    let t = c.args.tile.now in
    lane_stored (nat_lt j c.args.left) (is_among t.least t.more (slice_index c.args.words j % 2 ^ 24)) (slice_index (t.color ∷ t.color ∷ t.color ∷ t.color ∷ []) j) (slice_index c.words_of-old.result j) (slice_index c.kept-painted.result j) t.color
    (slice_index_or c.put_words.new.texels (c.args.at + j) []) (slice_index_or c.args.colors.now (c.args.at + j) [])
    (lt-ltb j c.args.left less) (c.put_words.ensures.bytes j h) (c.kept-painted.ensures j h) (splat_lane t.color j h) (c.words_of-old.ensures.bytes j h)

pub returns-clause-rest : goal.returns-clause-rest
returns-clause-rest c j h more =
    let t = c.args.tile.now in
    lane_kept (nat_lt j c.args.left) (is_among t.least t.more (slice_index c.args.words j % 2 ^ 24)) (slice_index (t.color ∷ t.color ∷ t.color ∷ t.color ∷ []) j) (slice_index c.words_of-old.result j) (slice_index c.kept-painted.result j)
    (slice_index_or c.put_words.new.texels (c.args.at + j) []) (slice_index_or c.args.colors.now (c.args.at + j) [])
    (le-ltb j c.args.left more) (c.put_words.ensures.bytes j h) (c.kept-painted.ensures j h) (c.words_of-old.ensures.bytes j h)
