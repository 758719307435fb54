use Rattle.std.proofs.Common.{◌≡◌, map, take}
use Rattle.std.specs.List.{flat_map}
use Rattle.gfx_model.specs.Frames.{numbered_entries}
use Rattle.gfx_model.specs.World.{sorted_by_key}
use Rattle.frame_record.specs.Merged.{pair_of}
use Rattle.frame_record.specs.Seen.{recordings_seen}
use Rattle.frame_record.proofs.collecting.collect.Given as goal

-- the recordings before the index are merged
abbrev pub invariant-loop-recording : goal.invariant-loop-recording
invariant-loop-recording l = map pair_of l.all.items ≡ sorted_by_key (flat_map numbered_entries (recordings_seen (take l.recording-index l.recordings)))
