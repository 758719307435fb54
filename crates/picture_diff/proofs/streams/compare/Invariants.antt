use Rattle.std.proofs.Common.{◌≡◌, map}
use Rattle.picture_diff.specs.Frames.{compared, onto}
use Rattle.picture_diff.specs.Told.{picture_seen}
use Rattle.picture_diff.proofs.Frames.{compared_from}
use Rattle.picture_diff.proofs.streams.compare.Given as goal

abbrev pub invariant-loop-frame : goal.invariant-loop-frame
invariant-loop-frame l = onto l.found.items (compared_from l.near l.frame l.ones l.others) ≡ compared l.near 0 (map picture_seen l.ones) (map picture_seen l.others)
