use Rattle.std.proofs.Common.{◌≡◌, map, refl, sym, ◌∙◌}
use Rattle.std.specs.Prelude.{fold}
use Rattle.int_raster.specs.Drawing.{drawn_prepared}
use Rattle.int_raster.specs.Seen.{surface_seen}
use Rattle.pass_bands.specs.Planned.{plan_seen}
use Rattle.pass_laws.specs.Passed.{all_drawn}
use Rattle.store_laws.specs.Listed.{Drawing}
use Rattle.store_model.specs.Textures.{target_back}
use Rattle.view_drawing.specs.Passes.{turn_seen}
use Rattle.view_drawing.proofs.lending.lend_taken.Goals as goal

pub returns-in-Ok-clause-lent : goal.returns-in-Ok-clause-lent
returns-in-Ok-clause-lent c =
    let stores = c.args.stores in
    let ts = map turn_seen c.args.views.now in
    let s = surface_seen c.args.surface in
    let after : Drawing = record { buffers = c.plan_of.new.buffers; surface = fold drawn_prepared s (plan_seen stores.textures c.in-Ok.plan) } in
    let made : all_drawn stores.textures stores.programs (record { buffers = stores.buffers; surface = s }) ts ≡ after = c.in-Ok.ensures.done s refl refl in
    c.lend_task.ensures
    ∙ sym (λ i. record { back = surface_seen stores.back; buffers = (made i).buffers; textures = target_back c.args.index (made i).surface.color (made i).surface.depth stores.textures; programs = stores.programs })

pub returns-in-Err-clause-begun : goal.returns-in-Err-clause-begun
returns-in-Err-clause-begun c =
    let stores = c.args.stores in
    (c.in-Err.ensures.given, (λ i. record { back = surface_seen stores.back; buffers = c.plan_of.new.buffers; textures = c.put_target.ensures i; programs = stores.programs }))
