use Rattle.std.proofs.Common.{◌≡◌, map, take}
use Rattle.std.specs.List.{AllByRecursion}
use Rattle.gfx_model.specs.Frames.{keyed_entries}
use Rattle.frame_record.specs.Ordered.{keyed_of, IsPlaced}
use Rattle.frame_record.specs.Seen.{entry_seen, recordings_seen}
use Rattle.frame_record.proofs.ordering.with_keys.Given as goal

-- the entries before the place are there with their keys, each at its view
abbrev pub invariant-loop-place : goal.invariant-loop-place
invariant-loop-place l =
    (map keyed_of l.room.items ≡ keyed_entries l.views (recordings_seen l.recordings) (map entry_seen (take l.place l.journal)))
    × AllByRecursion (IsPlaced l.views (recordings_seen l.recordings)) (map keyed_of l.room.items)
