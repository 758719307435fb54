use Rattle.std.proofs.Common.{◌≡◌, length}
use Rattle.scene_playing.proofs.ordered.record_entries.Given as goal

abbrev pub invariant-loop-entry : goal.invariant-loop-entry
invariant-loop-entry g l = length l.begun ≡ length l.initial.begun
