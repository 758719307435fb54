use Rattle.std.proofs.Common.{map, ap, ◌++◌, ◌∙◌}
use Rattle.std.specs.Prelude.{fold}
use Rattle.std.proofs.lemmas.Result.{on_ok_weaker, on_err_weaker}
use Rattle.gfx_model.specs.World.{blit_item}
use Rattle.view_table.specs.Seen.{view_seen}
use Rattle.store_laws.specs.ByIndex.{do_by_index}
use Rattle.render_stores.specs.Seen.{stores_seen}
use Rattle.view_drawing.specs.Entries.{blits_of, items_of}
use Rattle.view_drawing.proofs.Folds.{on_err_holds}
use Rattle.view_drawing.proofs.DrawnLaws.{after_blits, begun_by_blits, begun_by_items}
use Rattle.view_drawing.proofs.entering.enter_view.Goals as goal

pub returns-clause-entered : goal.returns-clause-entered
returns-clause-entered g c =
    let view = view_seen c.args.view.now in
    let blits = blits_of c.args.frame.now c.args.blits.now in
    let items = items_of c.args.frame.now c.args.items.now in
    on_ok_weaker c.draw_items.result
    (λ e. e ∙ after_blits view (stores_seen c.clear_target.new.stores) blits items c.blit_all.new.textures c.in_ok-blit_all.ensures.copied
    ∙ ap (λ h. fold (do_by_index view) h (map blit_item blits ++ items)) c.clear_target.ensures)
    c.draw_items.ensures.done

pub returns-clause-begun : goal.returns-clause-begun
returns-clause-begun g c =
    let view = view_seen c.args.view.now in
    let blits = blits_of c.args.frame.now c.args.blits.now in
    let items = items_of c.args.frame.now c.args.items.now in
    on_err_weaker c.draw_items.result
    (λ e. begun_by_items view blits items (stores_seen c.args.stores.now) (stores_seen c.clear_target.new.stores) (stores_seen c.draw_items.new.stores) c.blit_all.new.textures c.clear_target.ensures c.in_ok-blit_all.ensures.copied e)
    c.draw_items.ensures.begun

pub returns-in_err-blit_all-clause-begun : goal.returns-in_err-blit_all-clause-begun
returns-in_err-blit_all-clause-begun g c =
    let view = view_seen c.args.view.now in
    let blits = blits_of c.args.frame.now c.args.blits.now in
    let items = items_of c.args.frame.now c.args.items.now in
    on_err_holds c.from_residual.result
    (begun_by_blits view blits items (stores_seen c.args.stores.now) (stores_seen c.clear_target.new.stores) c.blit_all.new.textures c.clear_target.ensures c.in_err-blit_all.ensures.begun)
