use Rattle.std.proofs.Common.{[], ◌∷◌, slice_index, if◌then◌else◌, ap, ◌∙◌}
use Rattle.std.proofs.lemmas.Bool.{lt-ltb, le-ltb}
use Rattle.int_raster.specs.Tiled.{word_bytes}
use Rattle.int_raster.proofs.Tiled.{splat_lane}
use Rattle.int_raster.proofs.tiles.store_first.Goals as goal

pub returns-clause-stored : goal.returns-clause-stored
returns-clause-stored c j h less =
    let n = c.args.tile.now.color in
    c.put_words.ensures.bytes j h
    ∙ ap word_bytes (c.first_kept.ensures j h ∙ ap (λ b. if b then slice_index (n ∷ n ∷ n ∷ n ∷ []) j else slice_index c.words_of-old.result j) (lt-ltb j c.args.left less) ∙ splat_lane n j h)

pub returns-clause-rest : goal.returns-clause-rest
returns-clause-rest c j h more =
    let n = c.args.tile.now.color in
    c.put_words.ensures.bytes j h
    ∙ ap word_bytes (c.first_kept.ensures j h ∙ ap (λ b. if b then slice_index (n ∷ n ∷ n ∷ n ∷ []) j else slice_index c.words_of-old.result j) (le-ltb j c.args.left more))
    ∙ c.words_of-old.ensures.bytes j h
