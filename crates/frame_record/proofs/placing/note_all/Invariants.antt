use Rattle.std.proofs.Common.{◌≡◌, ◌<◌, ℕ, false, length, map, take, slice_index_or}
use Rattle.std.specs.List.{list_any}
use Rattle.gfx_model.specs.World.{is_of_view}
use Rattle.frame_record.specs.Placed.{items_in}
use Rattle.frame_record.specs.Seen.{entry_seen, recordings_seen}
use Rattle.frame_record.proofs.placing.note_all.Given as goal

-- the views of the items before the place are noted
abbrev pub invariant-loop-place : goal.invariant-loop-place
invariant-loop-place l =
    (length l.entered ≡ length l.initial.entered)
    × ((v : ℕ) → v < length l.initial.entered → slice_index_or l.entered v false ≡ list_any (is_of_view v) (items_in (recordings_seen l.recordings) (map entry_seen (take l.place l.journal))))
