use Rattle.std.proofs.Common.{◌≡◌, ◌++◌, length}
use Rattle.frame_capture.specs.Spelling.{runs_behind, runs_of}
use Rattle.frame_capture.proofs.encoding.put_runs.Given as goal

abbrev pub invariant-loop-color : goal.invariant-loop-color
invariant-loop-color l = l.capture.items ++ runs_behind l.run l.rest ≡ l.fn.capture.items ++ runs_of l.pixels

abbrev pub decreases-loop-color : goal.decreases-loop-color
decreases-loop-color l = length l.rest
