use Rattle.std.proofs.Common.{ap, ◌∙◌}
use Rattle.int_raster.specs.Tiled.{word_bytes}
use Rattle.int_raster.proofs.Tiled.{splat_lane}
use Rattle.int_raster.proofs.gradients.four_of.Goals as goal

pub returns : goal.returns
returns c j h = ap word_bytes (splat_lane c.word_of.result j h) ∙ c.word_of.ensures.bytes
