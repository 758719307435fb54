use Rattle.std.proofs.Common.{length}
use Rattle.pass_bands.proofs.ends.+end_deep.Given as goal

abbrev pub decreases-end_deep : goal.decreases-end_deep
decreases-end_deep l = length l.homes.now.items
