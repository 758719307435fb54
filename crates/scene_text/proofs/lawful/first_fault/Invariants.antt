use Rattle.std.proofs.Common.{◌≡◌, ◌+◌, drop, map}
use Rattle.scene_text.specs.Journals.{entry_count, fault_from}
use Rattle.scene_text.specs.Seen.{entry_seen}
use Rattle.scene_text.proofs.FaultPlaces.{shifted}
use Rattle.scene_text.proofs.lawful.first_fault.Given as goal

-- the fault behind the frames so far is that of all
abbrev pub invariant-loop-index : goal.invariant-loop-index
invariant-loop-index l = record {
  left : shifted l.place (fault_from (drop l.index l.accepted) (drop l.index (map (map entry_seen) l.frames))) ≡ fault_from l.accepted (map (map entry_seen) l.frames);
  entries : l.place + entry_count (drop l.index (map (map entry_seen) l.frames)) ≡ entry_count (map (map entry_seen) l.frames);
}
