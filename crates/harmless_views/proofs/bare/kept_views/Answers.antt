use Rattle.render_stores.specs.Seen.{stores_seen}
use Rattle.render_core.specs.Seen.{journal_of, recordings_of}
use Rattle.harmless_views.specs.Seen.{ViewJudged, ViewMatters}
use Rattle.harmless_views.proofs.Leaving.{more-left-at}
use Rattle.harmless_views.proofs.bare.kept_views.Goals as goal

pub loop-view-preserved : goal.loop-view-preserved
loop-view-preserved c =
    let a = c.args in
    let f = a.frame.now in
    more-left-at (ViewJudged (stores_seen a.stores.now) f.views a.marks.now (recordings_of f) (journal_of f)) (ViewMatters (stores_seen a.stores.now) f.views a.marks.now (recordings_of f) (journal_of f)) a.views.now
    c.loop-view.kept.items c.put_view.new.kept.items c.loop-view.view-index _ c.in_ok-harmless.harmless c.loop-view-test.true c.in_ok-put_view.ensures
    c.in_ok-harmless.ensures.judged c.in_ok-harmless.ensures.matters c.loop-view.invariant
