use Rattle.gfx_model.specs.Resources.{set_view_clear}
use Rattle.c_calls.specs.Rendered.{rendering_of}
use Rattle.c_calls.proofs.On.{on_changes}
use Rattle.c_calls.proofs.Told.{changes_told}
use Rattle.c_calls.proofs.context.Context.set_view_clear.Goals as goal

pub invariant_of-self : goal.invariant_of-self
invariant_of-self c = (on_changes c.self.invariant.0 c.set_view_clear.new.self (set_view_clear c.args.view (record { flags = c.args.flags; color = c.args.color; depth = c.args.depth; stencil = c.args.stencil })) c.set_view_clear.result c.set_view_clear.ensures, c.self.invariant.1)

pub returns : goal.returns
returns c = changes_told c.self.inside.things.rows.items (rendering_of c.self.inside.renderer) c.self.inside.standing c.self.inside.renderer.sink.capacity c.self.inside.core c.set_view_clear.new.self (set_view_clear c.args.view (record { flags = c.args.flags; color = c.args.color; depth = c.args.depth; stencil = c.args.stencil })) c.told.result c.set_view_clear.result c.told.ensures c.set_view_clear.ensures _ c.self.view_is
