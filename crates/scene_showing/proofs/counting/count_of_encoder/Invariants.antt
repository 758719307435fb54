use Rattle.std.proofs.Common.{◌≡◌, ◌≤◌}
use Rattle.scene_showing.proofs.Counts.{entries_before}
use Rattle.scene_showing.proofs.counting.count_of_encoder.Given as goal

-- the encoder's entries so far are counted
abbrev pub invariant-loop-entry : goal.invariant-loop-entry
invariant-loop-entry l = record {
  counted : l.count ≡ entries_before l.encoder l.entry-index l.entries;
  few : l.count ≤ l.entry-index;
}
