use Rattle.std.proofs.Common.{length}
use Rattle.pass_bands.proofs.ends.+end_flat.Given as goal

abbrev pub decreases-end_flat : goal.decreases-end_flat
decreases-end_flat l = length l.homes.now.items
