use Rattle.std.proofs.Common.{◌≡◌, Option, Some, None, ap, subst, ◌∙◌}
use Rattle.gfx_model.specs.World.{Paint}
use Rattle.int_raster.specs.Seen.{paint_seen}
use Rattle.view_table.specs.Seen.{view_seen}
use Rattle.store_model.specs.Slots.{at}
use Rattle.store_laws.specs.ByIndex.{paint_at}
use Rattle.draw_encoder.specs.Seen.{draw_seen}
use Rattle.view_drawing.specs.Prepared.{IsPreparedBy}
use Rattle.view_drawing.proofs.deeds.prepare_draw.Goals as goal

pub returns-in-Ok : goal.returns-in-Ok
returns-in-Ok c sets =
    let d = draw_seen c.args.recorded.now sets c.args.draw.now in
    let view = view_seen c.args.stage.now.view.now in
    let b = c.args.buffers.now in
    let textures = c.args.stage.now.textures.now in
    let programs = c.args.stage.now.programs.now in
    let paint : Some (paint_seen c.in-Some.paint) ≡ paint_at b textures d (at programs d.program.index) =
    c.in-Some.ensures c.args.recorded.now sets ∙ ap (paint_at b textures d) (c.get-program.ensures ∙ ap (at programs) c.index.ensures.same) in
    subst (λ (o : Option Paint). IsPreparedBy c.args.stage.now.width c.args.stage.now.height view d b o (Some c.in-Ok.prepared) c.prepare.new.room.triangles.items) paint (c.in-Ok.ensures sets)

pub returns-in-None : goal.returns-in-None
returns-in-None c sets =
    let d = draw_seen c.args.recorded.now sets c.args.draw.now in
    let view = view_seen c.args.stage.now.view.now in
    let b = c.args.buffers.now in
    let textures = c.args.stage.now.textures.now in
    let programs = c.args.stage.now.programs.now in
    let paint : None ≡ paint_at b textures d (at programs d.program.index) =
    c.in-None.ensures c.args.recorded.now sets ∙ ap (paint_at b textures d) (c.get-program.ensures ∙ ap (at programs) c.index.ensures.same) in
    subst (λ (o : Option Paint). IsPreparedBy c.args.stage.now.width c.args.stage.now.height view d b o None c.args.room.now.triangles.items) paint tt
