use Rattle.std.proofs.Common.{List, map, ◌∙◌}
use Rattle.std.specs.Prelude.{fold}
use Rattle.gfx_model.specs.World.{Facing}
use Rattle.fix_math.specs.Seen.{rect_seen}
use Rattle.tri_cover.specs.Shown.{setup_seen}
use Rattle.int_raster.specs.Drawing.{drawn_prepared, facing_shown}
use Rattle.int_raster.specs.Seen.{prepared_seen}
use Rattle.pass_bands.specs.Planned.{planned_seen, planned_draw, plan_seen}
use Rattle.view_table.specs.Seen.{view_seen}
use Rattle.draw_encoder.specs.Seen.{draw_seen}
use Rattle.view_drawing.specs.Prepared.{IsPreparedDraw}
use Rattle.view_drawing.proofs.CutLaws.{list_width, list_height, draw_added}
use Rattle.view_drawing.proofs.PreparedLaws.{prepared_does}
use Rattle.view_drawing.proofs.plan_draws.plan_painted.Goals as goal

pub returns-in_ok-push-in-Ok : goal.returns-in_ok-push-in-Ok
returns-in_ok-push-in-Ok c sets s ew eh =
    let view = view_seen c.args.stage.now.view.now in
    let d = draw_seen c.args.recorded.now sets c.args.draw.now in
    let t = c.args.stage.now.textures.now in
    let old = plan_seen t c.args.plan.now in
    let triangles = c.prepare.new.room.triangles.items in
    let p = c.in-Ok.prepared in
    let b = c.args.buffers.now in
    let paint = planned_seen t c.args.paint in
    let facings : List Facing = map (facing_shown p.front p.back) (map setup_seen triangles) in
    let is : IsPreparedDraw c.args.stage.now.width c.args.stage.now.height view d b paint p triangles = rw c.with.ensures at (c.in-Ok.ensures sets) in
    prepared_does c.args.stage.now.width c.args.stage.now.height view d b paint p triangles (fold drawn_prepared s old) (list_width s old ∙ ew) (list_height s old ∙ eh) is
    ∙ (λ i. drawn_prepared (fold drawn_prepared s old) (record { cut = rect_seen p.cut; state = p.state; paint = is.paint_is i; facings = facings }))
    ∙ draw_added s old (plan_seen t c.push.new.self) (planned_draw t (prepared_seen p (map setup_seen triangles)) c.args.paint) (rw c.deref.ensures.value at (c.in_ok-push-in-Ok.ensures.ok t))
