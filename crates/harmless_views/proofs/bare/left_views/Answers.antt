use Rattle.std.proofs.Common.{map, sym, subst}
use Rattle.render_stores.specs.Seen.{stores_seen}
use Rattle.render_core.specs.Seen.{journal_of, recordings_of}
use Rattle.recorded_keys.specs.Recorded.{ArePlanned}
use Rattle.shared_keys.specs.Lines.{shared_views}
use Rattle.shared_keys.specs.Marks.{shared_seen}
use Rattle.harmless_views.proofs.Harmless.{views-left, views-kept}
use Rattle.harmless_views.proofs.bare.left_views.Goals as goal

pub returns : goal.returns
returns c = λ s k p w plan views gathered shaped.
    let f = c.args.frame.now in
    let h = stores_seen c.args.stores.now in
    let planned = c.planned_law.ensures p f.recordings.items gathered in
    let found = c.in_ok-views.ensures s k p plan views (subst (ArePlanned p) (sym c.as_slice.ensures.value) planned) in
    let are = c.in_ok-marks.ensures s k p plan views (subst (ArePlanned p) (sym c.as_slice-2.ensures.value) planned) in
    views-left h f.views (recordings_of f) (journal_of f) p w c.in_ok-marks.marks.items (map shared_seen c.in_ok-left.left.items) (c.there_law.ensures s k p plan) c.tell_facts.ensures.kept.journal views gathered are shaped
    (views-kept h f.views (recordings_of f) (journal_of f) c.in_ok-marks.marks.items _ c.in_ok-views.views.items _ (shared_views p) (map shared_seen c.in_ok-left.left.items) c.deref.ensures.value c.deref-2.ensures.value found c.in_ok-left.ensures)
