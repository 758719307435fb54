use Rattle.std.proofs.Common.{◌∙◌, ◌≤◌, ℕ, ap, subst}
use Rattle.gfx_model.specs.Views.{view_at, view_count}
use Rattle.frame_record.specs.Seen.{recordings_seen}
use Rattle.render_stores.specs.Seen.{stores_seen}
use Rattle.store_laws.specs.ByIndex.{Stores}
use Rattle.trace_laws.specs.Doers.{Doer}
use Rattle.trace_lines.specs.Seen.{doer_seen}
use Rattle.frame_steps.specs.Doing.{deed_of_frame}
use Rattle.frame_blame.specs.Done.{strokes_done, view_of_doer}
use Rattle.frame_blame.proofs.Items.{changes-none, done-nowhere}
use Rattle.frame_blame.proofs.deeds.Table.paint_deed.Goals as goal

pub paint_in-requires-clause-own : goal.paint_in-requires-clause-own
paint_in-requires-clause-own c = c.in-Some.ensures.1 ∙ ap (view_at c.args.frame.now.views) c.view_of.ensures

pub returns-in-None-clause-painted : goal.returns-in-None-clause-painted
returns-in-None-clause-painted c =
    let a = c.args in
    let h : Stores = stores_seen a.stores.now in
    let d : Doer = doer_seen a.doer in
    let none : view_count a.frame.now.views ≤ view_of_doer d = subst (λ (v : ℕ). view_count a.frame.now.views ≤ v) c.view_of.ensures c.in-None.ensures in
    changes-none a.self.now.width a.self.now.height a.number (strokes_done h (deed_of_frame a.frame.now d)) a.self.now.marks.items
    (λ x y. done-nowhere h a.frame.now.views (recordings_seen a.frame.now.recordings.items) x y d none)
