use Rattle.std.proofs.Common.{List, Some}
use Rattle.gfx_model.specs.Frames.{Recorded, item_of_entry}
use Rattle.gfx_model.specs.Views.{View}
use Rattle.gfx_words.specs.Seen.{entry_seen}
use Rattle.frame_record.specs.Seen.{recordings_seen}
use Rattle.store_laws.specs.ByIndex.{Stores}
use Rattle.tri_cover.specs.declared.triangles.Setup.{Setup}
use Rattle.view_table.specs.Seen.{view_seen}
use Rattle.render_stores.specs.Seen.{stores_seen}
use Rattle.harmless_views.proofs.Covers.{prepared-as, item-drawn, items-add}
use Rattle.harmless_views.proofs.covering.push_draw.Goals as goal

pub returns-in_ok-push_triangles-in-Ok-Some-clause-has : goal.returns-in_ok-push_triangles-in-Ok-Some-clause-has
returns-in_ok-push_triangles-in-Ok-Some-clause-has c = λ done.
    let a = c.args in
    let h : Stores = stores_seen a.scope.now.stores.now in
    let view : View = view_seen a.scope.now.view.now in
    let rs : List Recorded = recordings_seen a.scope.now.frame.now.recordings.items in
    let ts : List Setup = c.triangles.result.now in
    item-drawn c.push_triangles.new.runs.items a.coverer.key a.coverer.encoder h view (item_of_entry rs (entry_seen a.entry)) c.in-Ok-Some.draw ts
    (prepared-as h view rs c.by_any_key-item.result.entry a.entry _ (Some c.in-Ok-Some.draw) _ ts c.by_any_key-item.ensures c.in-Ok-Some.field-0-is c.triangles.ensures c.in-Ok-Some.ensures) c.in_ok-push_triangles-in-Ok-Some.ensures.has

pub returns-in_ok-push_triangles-in-Ok-Some-clause-adds : goal.returns-in_ok-push_triangles-in-Ok-Some-clause-adds
returns-in_ok-push_triangles-in-Ok-Some-clause-adds c =
    let a = c.args in
    let h : Stores = stores_seen a.scope.now.stores.now in
    let view : View = view_seen a.scope.now.view.now in
    let rs : List Recorded = recordings_seen a.scope.now.frame.now.recordings.items in
    let ts : List Setup = c.triangles.result.now in
    items-add a.coverer.key a.coverer.encoder h view (item_of_entry rs (entry_seen a.entry)) c.in-Ok-Some.draw ts a.runs.now.items c.push_triangles.new.runs.items
    (prepared-as h view rs c.by_any_key-item.result.entry a.entry _ (Some c.in-Ok-Some.draw) _ ts c.by_any_key-item.ensures c.in-Ok-Some.field-0-is c.triangles.ensures c.in-Ok-Some.ensures) c.in_ok-push_triangles-in-Ok-Some.ensures.adds
