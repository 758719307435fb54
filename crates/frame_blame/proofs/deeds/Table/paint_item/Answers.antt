use Rattle.std.proofs.Common.{List, Option, Some, sym, subst}
use Rattle.gfx_model.specs.Frames.{item_of_entry}
use Rattle.gfx_model.specs.Views.{View}
use Rattle.gfx_model.specs.World.{Item}
use Rattle.frame_record.specs.Seen.{entry_seen, recordings_seen}
use Rattle.int_raster.specs.declared.lists.Prepared.{Prepared}
use Rattle.store_laws.specs.ByIndex.{Stores}
use Rattle.tri_cover.specs.declared.triangles.Setup.{Setup}
use Rattle.view_drawing.specs.Prepared.{IsPreparedItem}
use Rattle.view_table.specs.Seen.{view_seen}
use Rattle.render_stores.specs.Seen.{stores_seen}
use Rattle.frame_tracing.specs.Given.{strokes_prepared}
use Rattle.frame_blame.specs.Done.{given_of}
use Rattle.frame_blame.proofs.Items.{changes-none, changes-by, prepared-strokes, no-strokes}
use Rattle.frame_blame.proofs.deeds.Table.paint_item.Goals as goal

pub returns-in-Ok-Some-clause-painted : goal.returns-in-Ok-Some-clause-painted
returns-in-Ok-Some-clause-painted c =
    let a = c.args in
    let h : Stores = stores_seen a.stores.now in
    let view : View = view_seen a.view.now in
    let item : Option Item = item_of_entry (recordings_seen a.frame.now.recordings.items) (entry_seen a.item.now.entry) in
    let draw : Prepared = c.in-Ok-Some.draw in
    let ts : List Setup = c.triangles.result.now in
    let is : IsPreparedItem h.back.color.width h.back.color.height view item h.buffers h.textures h.programs (Some draw) ts =
    subst (λ (us : List Setup). IsPreparedItem h.back.color.width h.back.color.height view item h.buffers h.textures h.programs (Some draw) us) (sym c.triangles.ensures)
    (subst (λ (o : Option Prepared). IsPreparedItem h.back.color.width h.back.color.height view item h.buffers h.textures h.programs o c.prepare_item.new.room.triangles.items) c.in-Ok-Some.field-0-is
    c.in-Ok-Some.ensures) in
    changes-by a.self.now.width a.self.now.height a.number (strokes_prepared draw ts) (given_of h view item) a.self.now.marks.items c.paint_draw.new.self.marks.items
    (λ x y. prepared-strokes h view x y c.requires item draw ts is) c.paint_draw.ensures.painted

pub returns-in-Ok-None-clause-painted : goal.returns-in-Ok-None-clause-painted
returns-in-Ok-None-clause-painted c =
    let a = c.args in
    let h : Stores = stores_seen a.stores.now in
    let view : View = view_seen a.view.now in
    let item : Option Item = item_of_entry (recordings_seen a.frame.now.recordings.items) (entry_seen a.item.now.entry) in
    let is =
    subst (λ (o : Option Prepared). IsPreparedItem h.back.color.width h.back.color.height view item h.buffers h.textures h.programs o c.prepare_item.new.room.triangles.items) c.in-Ok-None.field-0-is
    c.in-Ok-None.ensures in
    changes-none a.self.now.width a.self.now.height a.number (given_of h view item) a.self.now.marks.items (λ x y. no-strokes h view x y c.requires item c.prepare_item.new.room.triangles.items is)
