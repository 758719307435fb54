use Rattle.gfx_model.specs.Resources.{set_view_target}
use Rattle.c_calls.specs.Rendered.{rendering_of}
use Rattle.c_calls.proofs.On.{on_changes}
use Rattle.c_calls.proofs.Told.{changes_told}
use Rattle.c_calls.proofs.context.Context.set_target.Goals as goal

pub invariant_of-self : goal.invariant_of-self
invariant_of-self c = (on_changes c.self.invariant.0 c.set_view_target.new.self (set_view_target c.args.view c.args.target) c.set_view_target.result c.set_view_target.ensures, c.self.invariant.1)

pub returns : goal.returns
returns c = changes_told c.self.inside.things.rows.items (rendering_of c.self.inside.renderer) c.self.inside.standing c.self.inside.renderer.sink.capacity c.self.inside.core c.set_view_target.new.self (set_view_target c.args.view c.args.target) c.told.result c.set_view_target.result c.told.ensures c.set_view_target.ensures _ c.self.view_is
