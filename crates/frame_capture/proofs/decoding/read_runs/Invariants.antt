use Rattle.std.proofs.Common.{◌≡◌, None}
use Rattle.frame_capture.specs.Fault.{behind, runs_at}
use Rattle.frame_capture.proofs.decoding.read_runs.Given as goal

abbrev pub invariant-loop-wanted : goal.invariant-loop-wanted
invariant-loop-wanted l = behind l.texts.items (runs_at l.before l.wanted l.rest) ≡ behind l.fn.texts.items (runs_at None l.pixels l.bytes)

abbrev pub decreases-loop-wanted : goal.decreases-loop-wanted
decreases-loop-wanted l = l.wanted
