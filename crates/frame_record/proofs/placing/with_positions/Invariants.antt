use Rattle.std.proofs.Common.{◌≡◌, map, take}
use Rattle.frame_record.specs.Placed.{placed_of, blit_entries}
use Rattle.frame_record.specs.Seen.{entry_seen, recordings_seen}
use Rattle.frame_record.proofs.placing.with_positions.Given as goal

-- the blits before the place are there with their positions
abbrev pub invariant-loop-place : goal.invariant-loop-place
invariant-loop-place l = map placed_of l.room.items ≡ blit_entries l.views (recordings_seen l.recordings) (map entry_seen (take l.place l.journal))
