use Rattle.gfx_model.specs.Resources.{reset_view}
use Rattle.c_calls.specs.Rendered.{rendering_of}
use Rattle.c_calls.proofs.On.{on_changes}
use Rattle.c_calls.proofs.Told.{changes_told}
use Rattle.c_calls.proofs.context.Context.reset_view.Goals as goal

pub invariant_of-self : goal.invariant_of-self
invariant_of-self c = (on_changes c.self.invariant.0 c.reset_view.new.self (reset_view c.args.view) c.reset_view.result c.reset_view.ensures, c.self.invariant.1)

pub returns : goal.returns
returns c = changes_told c.self.inside.things.rows.items (rendering_of c.self.inside.renderer) c.self.inside.standing c.self.inside.renderer.sink.capacity c.self.inside.core c.reset_view.new.self (reset_view c.args.view) c.told.result c.reset_view.result c.told.ensures c.reset_view.ensures _ c.self.view_is
