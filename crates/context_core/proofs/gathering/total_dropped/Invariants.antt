use Rattle.std.proofs.Common.{◌≡◌, ◌≤◌, ◌*◌, take}
use Rattle.context_core.specs.Gathered.{dropped_in}
use Rattle.context_core.proofs.gathering.total_dropped.Given as goal

abbrev pub invariant-loop-recording : goal.invariant-loop-recording
invariant-loop-recording l = record {
  most : l.sum ≤ l.recording-index * 4294967295;
  total : l.sum ≡ dropped_in (take l.recording-index l.recordings);
}
