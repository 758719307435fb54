use Rattle.std.proofs.Common.{sym, subst}
use Rattle.gfx_model.specs.World.{first_world}
use Rattle.store_laws.specs.ByIndex.{Stores}
use Rattle.store_laws.specs.Says.{StandsFor}
use Rattle.render_core.proofs.renderer.Renderer.new.Goals as goal

pub returns-in-Ok-clause-stands : goal.returns-in-Ok-clause-stands
returns-in-Ok-clause-stands g c place =
    subst (λ (h : Stores). StandsFor place h (first_world c.args.width c.args.height)) (sym c.in-Ok.ensures.stores) (c.start_law.ensures place (first_world c.args.width c.args.height).back)
