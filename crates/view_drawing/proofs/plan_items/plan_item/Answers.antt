use Rattle.std.proofs.Common.{ap}
use Rattle.draw_encoder.specs.Seen.{item_seen, draw_seen}
use Rattle.view_drawing.proofs.Folds.{on_err_holds}
use Rattle.view_drawing.proofs.plan_items.plan_item.Goals as goal

pub returns-in_err-plan_draw-in-Draw-clause-needs : goal.returns-in_err-plan_draw-in-Draw-clause-needs
returns-in_err-plan_draw-in-Draw-clause-needs c =
    let bytes = c.args.recording.now.bytes in
    let sets = c.args.recording.now.uniforms in
    on_err_holds c.from_residual.result (draw_seen bytes sets c.in-Draw.draw, (ap (item_seen bytes sets) c.in-Draw.is, c.in_err-plan_draw-in-Draw.ensures.needs))
