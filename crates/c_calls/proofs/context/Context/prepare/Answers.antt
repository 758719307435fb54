use Rattle.std.proofs.Common.{◌≡◌, refl, subst}
use Rattle.context_core.specs.Ended.{Prepares}
use Rattle.c_calls.specs.Rendered.{rendering_of}
use Rattle.c_calls.specs.Views.{ContextView}
use Rattle.c_calls.proofs.On.{on_prepares}
use Rattle.c_calls.proofs.Told.{context_with}
use Rattle.c_calls.proofs.context.Context.prepare.Goals as goal

pub prepare-requires : goal.prepare-requires
prepare-requires c = record { running = c.self.invariant.0.runs }

pub invariant_of-self : goal.invariant_of-self
invariant_of-self c = (on_prepares c.self.invariant.0 c.prepare.new.self c.prepare.result c.prepare.ensures, c.self.invariant.1)

pub returns-clause-prepares : goal.returns-clause-prepares
returns-clause-prepares c = subst (λ (v : ContextView). Prepares c.prepare.result v.core c.prepare.new.self) c.self.view_is c.prepare.ensures

pub returns-clause-same : goal.returns-clause-same
returns-clause-same c = subst (λ (v : ContextView). (context_with c.self.inside.things.rows.items (rendering_of c.self.inside.renderer) c.self.inside.standing c.self.inside.renderer.sink.capacity) c.prepare.new.self ≡ record v { core = c.prepare.new.self }) c.self.view_is refl
