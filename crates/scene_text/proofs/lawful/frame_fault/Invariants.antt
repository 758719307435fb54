use Rattle.std.proofs.Common.{◌≡◌, [], length, take, drop, map}
use Rattle.scene_text.specs.Journals.{fault_in}
use Rattle.scene_text.specs.Seen.{entry_seen}
use Rattle.scene_text.proofs.FaultPlaces.{IsTaken}
use Rattle.scene_text.proofs.lawful.frame_fault.Given as goal

-- the fault behind the entries so far is that of all, and each encoder's entries are counted
abbrev pub invariant-loop-place : goal.invariant-loop-place
invariant-loop-place l = record {
  left : fault_in l.counts (take l.place (map entry_seen l.entries)) (drop l.place (map entry_seen l.entries)) ≡ fault_in l.counts [] (map entry_seen l.entries);
  taken : IsTaken l.taken (take l.place (map entry_seen l.entries));
  length : length l.taken ≡ 256;
}
