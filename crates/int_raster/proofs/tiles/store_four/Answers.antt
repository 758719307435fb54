use Rattle.std.proofs.Common.{◌%◌, ◌^◌, ◌+◌, [], slice_index_or, if◌then◌else◌, ap, ◌∙◌}
use Rattle.int_raster.specs.Tiled.{word_bytes, is_among}
use Rattle.int_raster.proofs.tiles.store_four.Goals as goal

pub returns-clause-stored : goal.returns-clause-stored
returns-clause-stored c j h less =
    let t = c.args.tile.now in
    let old = slice_index_or c.args.colors.now (c.args.at + j) [] in (
      c.store_color.ensures.stored j h less ∙ ap (λ n. if is_among t.least t.more (n % 2 ^ 24) then word_bytes t.color else old) (c.words_of-words.ensures.words j h),
      c.store_depth.ensures.stored j h less,
    )

pub returns-clause-rest : goal.returns-clause-rest
returns-clause-rest c j h more = (c.store_color.ensures.rest j h more, c.store_depth.ensures.rest j h more)

pub returns-clause-others : goal.returns-clause-others
returns-clause-others c i out = (c.store_color.ensures.others i out, c.store_depth.ensures.others i out)
