use Rattle.std.proofs.Common.{◌≡◌, map, take, filter}
use Rattle.std.specs.Prelude.{flat_map}
use Rattle.std.specs.List.{list_any}
use Rattle.gfx_model.specs.World.{is_of_view}
use Rattle.gfx_model.specs.Views.{view_order}
use Rattle.frame_record.specs.Seen.{entry_seen, recordings_seen}
use Rattle.trace_laws.specs.Doers.{doers_in_view, items_in}
use Rattle.trace_lines.specs.Seen.{doer_seen}
use Rattle.trace_lines.proofs.doers.doers_of.Given as goal

abbrev pub invariant-loop-position : goal.invariant-loop-position
invariant-loop-position l =
    let rs = recordings_seen l.frame.recordings.items in
    map doer_seen l.doers.items
    ≡ flat_map (doers_in_view rs (map entry_seen l.entries.items)) (filter (λ v. list_any (is_of_view v) (items_in rs (map entry_seen l.frame.journal.items))) (take l.position (view_order l.frame.views)))
