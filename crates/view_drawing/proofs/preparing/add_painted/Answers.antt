use Rattle.std.proofs.Common.{map, ◌∙◌}
use Rattle.std.specs.Prelude.{fold}
use Rattle.tri_cover.specs.Shown.{setup_seen}
use Rattle.int_raster.specs.Drawing.{drawn_prepared}
use Rattle.int_raster.specs.Seen.{paint_seen, prepared_seen}
use Rattle.view_table.specs.Seen.{view_seen}
use Rattle.draw_encoder.specs.Seen.{draw_seen}
use Rattle.view_drawing.proofs.CutLaws.{list_width, list_height, draw_added}
use Rattle.view_drawing.proofs.PreparedLaws.{prepared_does}
use Rattle.view_drawing.proofs.preparing.add_painted.Goals as goal

pub returns-in_ok-push-in-Ok : goal.returns-in_ok-push-in-Ok
returns-in_ok-push-in-Ok c sets s ew eh =
    let view = view_seen c.args.stage.now.view.now in
    let d = draw_seen c.args.recorded.now sets c.args.draw.now in
    let old = c.args.list.now in
    let triangles = c.prepare.new.room.triangles.items in
    let p = c.in-Ok.prepared in
    prepared_does c.args.stage.now.width c.args.stage.now.height view d c.args.buffers.now (paint_seen c.args.paint) p triangles (fold drawn_prepared s old) (list_width s old ∙ ew) (list_height s old ∙ eh) (c.in-Ok.ensures sets)
    ∙ draw_added s old c.push.new.self (prepared_seen p (map setup_seen triangles)) (rw c.deref.ensures.value at c.in_ok-push-in-Ok.ensures.ok)
