use Rattle.std.proofs.Common.{◌≡◌, [], sym, ap, ◌∙◌, Some, None}
use Rattle.std.specs.Prelude.{fold}
use Rattle.int_raster.specs.Drawing.{drawn_prepared}
use Rattle.pass_bands.specs.Planned.{planned_seen, plan_seen}
use Rattle.view_table.specs.Seen.{view_seen}
use Rattle.store_model.specs.Slots.{at}
use Rattle.store_laws.specs.ByIndex.{paint_at}
use Rattle.store_laws.specs.Listed.{painted_in}
use Rattle.draw_encoder.specs.Seen.{draw_seen}
use Rattle.view_drawing.proofs.Folds.{on_err_holds}
use Rattle.view_drawing.proofs.Needs.{program_there}
use Rattle.view_drawing.proofs.plan_draws.plan_draw.Goals as goal

pub returns-in_ok-plan_painted-in-Some-clause-adds : goal.returns-in_ok-plan_painted-in-Some-clause-adds
returns-in_ok-plan_painted-in-Some-clause-adds c sets s ew eh =
    let d = draw_seen c.args.recorded.now sets c.args.draw.now in
    let view = view_seen c.args.stage.now.view.now in
    let b = c.args.buffers.now in
    let textures = c.args.stage.now.textures.now in
    let programs = c.args.stage.now.programs.now in
    let paint : Some (planned_seen textures c.in-Some.paint) ≡ paint_at b textures d (at programs d.program.index) =
    c.in-Some.ensures textures c.args.recorded.now sets ∙ ap (paint_at b textures d) (c.get-program.ensures ∙ ap (at programs) c.index.ensures.same) in
    sym (λ j. painted_in view d b (paint j) (fold drawn_prepared s (plan_seen textures c.args.plan.now)))
    ∙ c.in_ok-plan_painted-in-Some.ensures sets s ew eh

pub returns-in-None-clause-adds : goal.returns-in-None-clause-adds
returns-in-None-clause-adds c sets s ew eh =
    let d = draw_seen c.args.recorded.now sets c.args.draw.now in
    let view = view_seen c.args.stage.now.view.now in
    let b = c.args.buffers.now in
    let textures = c.args.stage.now.textures.now in
    let programs = c.args.stage.now.programs.now in
    let paint : None ≡ paint_at b textures d (at programs d.program.index) =
    c.in-None.ensures textures c.args.recorded.now sets ∙ ap (paint_at b textures d) (c.get-program.ensures ∙ ap (at programs) c.index.ensures.same) in
    sym (λ j. painted_in view d b (paint j) (fold drawn_prepared s (plan_seen textures c.args.plan.now)))

pub returns-in_err-plan_painted-in-Some-clause-needs : goal.returns-in_err-plan_painted-in-Some-clause-needs
returns-in_err-plan_painted-in-Some-clause-needs c =
    let d = draw_seen c.args.recorded.now [] c.args.draw.now in
    let b = c.args.buffers.now in
    let textures = c.args.stage.now.textures.now in
    let programs = c.args.stage.now.programs.now in
    on_err_holds c.from_residual.result
    (program_there b textures d (planned_seen textures c.in-Some.paint) (at programs d.program.index)
    (c.in-Some.ensures textures c.args.recorded.now [] ∙ ap (paint_at b textures d) (c.get-program.ensures ∙ ap (at programs) c.index.ensures.same)))
