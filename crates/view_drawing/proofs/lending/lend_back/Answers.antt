use Rattle.std.proofs.Common.{map, refl, ◌∙◌}
use Rattle.std.specs.Prelude.{fold}
use Rattle.int_raster.specs.Drawing.{drawn_prepared}
use Rattle.int_raster.specs.Seen.{surface_seen}
use Rattle.pass_bands.specs.Planned.{plan_seen}
use Rattle.render_stores.specs.Seen.{stores_seen}
use Rattle.view_drawing.specs.Passes.{turn_seen}
use Rattle.view_drawing.proofs.DrawnLaws.{listed_back}
use Rattle.view_drawing.proofs.lending.lend_back.Goals as goal

pub returns-in-Ok-clause-lent : goal.returns-in-Ok-clause-lent
returns-in-Ok-clause-lent c =
    let stores = c.args.stores in
    let h = stores_seen stores in
    let ts = map turn_seen c.args.views.now in
    c.lend_task.ensures
    ∙ listed_back h ts c.plan_of.new.buffers (fold drawn_prepared (surface_seen stores.back) (plan_seen stores.textures c.in-Ok.plan)) (c.in-Ok.ensures.done (surface_seen stores.back) refl refl)

pub returns-in-Err-clause-begun : goal.returns-in-Err-clause-begun
returns-in-Err-clause-begun c = (c.plan_of.new.buffers, (c.in-Err.ensures.given, refl))
