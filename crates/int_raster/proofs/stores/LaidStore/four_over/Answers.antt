use Rattle.std.proofs.Common.{slice_index, ◌∙◌}
use Rattle.int_raster.specs.Tiled.{word_bytes}
use Rattle.int_raster.proofs.stores.LaidStore.four_over.Goals as goal

pub returns : goal.returns
returns c state j lays h = c.four_over.ensures j h ∙ lays (word_bytes (slice_index c.args.new j)) (word_bytes (slice_index c.args.old j))
