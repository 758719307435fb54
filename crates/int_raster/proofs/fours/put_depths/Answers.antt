use Rattle.std.proofs.Common.{◌+◌, ◌%◌, ◌^◌, nat_lt, [], slice_index, slice_index_or}
use Rattle.std.proofs.lemmas.Bool.{lt-ltb, le-ltb}
use Rattle.gfx_model.specs.Number.{u32_at}
use Rattle.int_raster.specs.Tiled.{deep_of, is_within}
use Rattle.int_raster.proofs.Tiled.{lane_deep, lane_kept}
use Rattle.int_raster.proofs.fours.put_depths.Goals as goal

pub returns-clause-stored : goal.returns-clause-stored
returns-clause-stored c j h less =
    let t = c.args.reach.now in
    let new = slice_index c.args.four.now.depths j in
    lane_deep (nat_lt j c.args.left) (λ n. is_within t.least t.more new (n % 2 ^ 24)) (deep_of t.bits t.taken new)
    (slice_index c.with_depths-new.result j) (slice_index c.args.words j) (slice_index c.kept_within.result j)
    (u32_at (slice_index_or c.put_words.new.texels (c.args.at + j) []) 0) (u32_at (slice_index_or c.args.depths.now (c.args.at + j) []) 0)
    (lt-ltb j c.args.left less) (c.put_words.ensures.words j h) (c.kept_within.ensures j h) (c.with_depths-new.ensures j h) (c.requires.words j h)

pub returns-clause-rest : goal.returns-clause-rest
returns-clause-rest c j h more =
    let t = c.args.reach.now in
    lane_kept (nat_lt j c.args.left) (is_within t.least t.more (slice_index c.args.four.now.depths j) (slice_index c.args.words j % 2 ^ 24))
    (slice_index c.with_depths-new.result j) (slice_index c.args.words j) (slice_index c.kept_within.result j)
    (slice_index_or c.put_words.new.texels (c.args.at + j) []) (slice_index_or c.args.depths.now (c.args.at + j) [])
    (le-ltb j c.args.left more) (c.put_words.ensures.bytes j h) (c.kept_within.ensures j h) (c.requires.bytes j h)
