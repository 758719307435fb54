use Rattle.std.proofs.Common.{◌≡◌, ◌++◌, map, take, filter}
use Rattle.gfx_model.specs.World.{is_of_view}
use Rattle.frame_record.specs.Seen.{entry_seen, recordings_seen}
use Rattle.trace_laws.specs.Doers.{has_in, item_doer}
use Rattle.trace_lines.specs.Seen.{doer_seen}
use Rattle.trace_lines.proofs.doers.put_items.Given as goal

abbrev pub invariant-loop-entry : goal.invariant-loop-entry
invariant-loop-entry l =
    map doer_seen l.doers.items ≡ map doer_seen l.fn.doers.items ++ map (item_doer l.view) (filter (has_in (is_of_view l.view) (recordings_seen l.frame.recordings.items)) (map entry_seen (take l.entry-index l.entries)))
