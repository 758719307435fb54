use Rattle.std.proofs.Common.{map, take}
use Rattle.shared_keys.specs.Marks.{shared_seen}
use Rattle.render_stores.specs.Seen.{stores_seen}
use Rattle.render_core.specs.Seen.{journal_of, recordings_of}
use Rattle.harmless_views.specs.Left.{AreLeft}
use Rattle.harmless_views.specs.Seen.{ViewJudged, ViewMatters}
use Rattle.harmless_views.proofs.bare.kept_views.Given as goal

-- those of the views so far that are not harmless are kept
abbrev pub invariant-loop-view : goal.invariant-loop-view
invariant-loop-view l =
    AreLeft (ViewJudged (stores_seen l.stores) l.frame.views l.marks (recordings_of l.frame) (journal_of l.frame)) (ViewMatters (stores_seen l.stores) l.frame.views l.marks (recordings_of l.frame) (journal_of l.frame))
    (map shared_seen (take l.view-index l.views)) (map shared_seen l.kept.items)
