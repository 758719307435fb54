use Rattle.std.proofs.Common.{length, map}
use Rattle.picture_diff.specs.Told.{picture_seen}
use Rattle.picture_diff.proofs.Texts.{IsReadTo}
use Rattle.picture_diff.proofs.reading.read_pictures.Given as goal

abbrev pub invariant-loop-rest : goal.invariant-loop-rest
invariant-loop-rest l = IsReadTo l.bytes (map picture_seen l.pictures.items) l.rest

abbrev pub decreases-loop-rest : goal.decreases-loop-rest
decreases-loop-rest l = length l.rest
