use Rattle.std.proofs.Common.{slice_index, if◌then◌else◌, ap, ◌∙◌}
use Rattle.std.proofs.lemmas.Bool.{lt-ltb}
use Rattle.gfx_model.specs.Pixel.{stored_color}
use Rattle.int_raster.specs.Tiled.{word_bytes}
use Rattle.int_raster.proofs.fours.store_colors.Goals as goal

pub returns-clause-stored : goal.returns-clause-stored
returns-clause-stored g c state j meets h less =
    c.put_words.ensures.bytes j h
    ∙ ap word_bytes (c.first_kept.ensures j h ∙ ap (λ b. if b then slice_index c.four_over-over.result j else slice_index c.words_of-old.result j) (lt-ltb j c.args.left less))
    ∙ c.four_over-over.ensures state j meets h
    ∙ ap (stored_color state (word_bytes (slice_index c.args.new j))) (c.words_of-old.ensures.bytes j h)
