use Rattle.std.proofs.Common.{length}
use Rattle.int_raster.proofs.texts.+write_pieces.Given as goal

abbrev pub decreases-write_pieces : goal.decreases-write_pieces
decreases-write_pieces l = length l.colors.now
