use Rattle.std.proofs.Common.{map, take}
use Rattle.gfx_words.specs.Seen.{entry_seen}
use Rattle.covered_rows.specs.Covering.{AddsOnly}
use Rattle.harmless_views.specs.Checked.{AllChecked, AllThere, IsSomeRun}
use Rattle.harmless_views.specs.Seen.{entries_in, looked, recorded_in}
use Rattle.harmless_views.proofs.judging.check_all.Given as goal

-- the items of the entries so far are checked, and the runs are of entries
abbrev pub invariant-loop-entry : goal.invariant-loop-entry
invariant-loop-entry l = record {
  checked : AllChecked (looked l.scope) l.runs.items (recorded_in l.scope) (map entry_seen (take l.entry-index l.scope.frame.now.journal.items));
  adds : AllThere (looked l.scope) (recorded_in l.scope) (entries_in l.scope) → AddsOnly (IsSomeRun (looked l.scope) (recorded_in l.scope) (entries_in l.scope)) l.fn.runs.items l.runs.items;
}
