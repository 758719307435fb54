use Rattle.std.proofs.Common.{◌≡◌, ◌∙◌, None, sym, ap}
use Rattle.std.proofs.lemmas.Result.{on_ok_weaker}
use Rattle.gfx_model.specs.Frames.{Entry, item_of_entry}
use Rattle.gfx_model.specs.Views.{View}
use Rattle.frame_record.specs.Seen.{entry_seen, recordings_seen}
use Rattle.render_stores.specs.Seen.{stores_seen}
use Rattle.store_laws.specs.ByIndex.{Stores}
use Rattle.trace_laws.specs.ByIndex.{clear_strokes_in}
use Rattle.trace_laws.specs.Doers.{Doer}
use Rattle.trace_lines.specs.Seen.{doer_seen}
use Rattle.view_table.specs.Seen.{view_seen}
use Rattle.frame_steps.specs.Doing.{deed_of_frame}
use Rattle.frame_blame.specs.Done.{given_of, strokes_done}
use Rattle.frame_blame.proofs.Items.{changes-none, changes-by, clear-at, item-at, done-elsewhere, no-target}
use Rattle.frame_blame.proofs.deeds.Table.paint_in.Goals as goal

pub paint_item-requires : goal.paint_item-requires
paint_item-requires c = no-target c.args.view.now.target (sym c.is_some.ensures ∙ c.if-is_some.false)

pub returns-then-is_some-clause-painted : goal.returns-then-is_some-clause-painted
returns-then-is_some-clause-painted c =
    let a = c.args in
    let h : Stores = stores_seen a.stores.now in
    let d : Doer = doer_seen a.doer in
    changes-none a.self.now.width a.self.now.height a.number (strokes_done h (deed_of_frame a.frame.now d)) a.self.now.marks.items
    (λ x y. done-elsewhere h a.frame.now.views (recordings_seen a.frame.now.recordings.items) x y d (view_seen a.view.now) c.requires.there c.requires.own (sym c.is_some.ensures ∙ c.if-is_some.true))

pub returns-in-Clear-clause-painted : goal.returns-in-Clear-clause-painted
returns-in-Clear-clause-painted c =
    let a = c.args in
    let h : Stores = stores_seen a.stores.now in
    let view : View = view_seen a.view.now in
    let d : Doer = doer_seen a.doer in
    let back : view.target ≡ None = no-target view.target (sym c.is_some.ensures ∙ c.if-is_some.false) in
    changes-by a.self.now.width a.self.now.height a.number (clear_strokes_in h view) (strokes_done h (deed_of_frame a.frame.now d)) a.self.now.marks.items c.paint_clear.new.self.marks.items
    (λ x y. clear-at h a.frame.now.views (recordings_seen a.frame.now.recordings.items) x y d _ view (ap doer_seen c.in-Clear.is) c.requires.there c.requires.own back) c.paint_clear.ensures.painted

pub returns-in-Item-clause-painted : goal.returns-in-Item-clause-painted
returns-in-Item-clause-painted c =
    let a = c.args in
    let h : Stores = stores_seen a.stores.now in
    let view : View = view_seen a.view.now in
    let d : Doer = doer_seen a.doer in
    let n : Entry = entry_seen c.in-Item.entry in
    let back : view.target ≡ None = no-target view.target (sym c.is_some.ensures ∙ c.if-is_some.false) in
    on_ok_weaker c.paint_item.result
    (λ painted.
    changes-by a.self.now.width a.self.now.height a.number (given_of h view (item_of_entry (recordings_seen a.frame.now.recordings.items) n)) (strokes_done h (deed_of_frame a.frame.now d)) a.self.now.marks.items
    c.paint_item.new.self.marks.items
    (λ x y. item-at h a.frame.now.views (recordings_seen a.frame.now.recordings.items) x y d _ n view (ap doer_seen c.in-Item.is) c.requires.there c.requires.own back) painted)
    c.paint_item.ensures.painted
