use Rattle.std.proofs.Common.{◌∙◌}
use Rattle.int_raster.proofs.tiles.tile_of.Goals as goal

pub returns : goal.returns
returns c = record {
  color = c.word_of.ensures.bytes;
  low = c.among-least.ensures.low;
  few = c.among-least.ensures.few;
  test = λ stored small. c.passed-first.ensures.test stored small ∙ c.among-least.ensures.test stored small;
  free = c.is_over.ensures;
  stores = c.kept_bits-bits.ensures;
}
