use Rattle.gfx_model.specs.Resources.{update_buffer}
use Rattle.c_calls.specs.Rendered.{rendering_of}
use Rattle.c_calls.proofs.On.{on_updates}
use Rattle.c_calls.proofs.Told.{updates_told}
use Rattle.c_calls.proofs.context.Context.update_bytes.Goals as goal

pub invariant_of-self : goal.invariant_of-self
invariant_of-self c = (on_updates c.self.invariant.0 c.update_buffer.new.self (update_buffer c.args.buffer c.args.offset c.args.bytes.now) c.update_buffer.result c.update_buffer.ensures, c.self.invariant.1)

pub returns : goal.returns
returns c = updates_told c.self.inside.things.rows.items (rendering_of c.self.inside.renderer) c.self.inside.standing c.self.inside.renderer.sink.capacity c.self.inside.core c.update_buffer.new.self (update_buffer c.args.buffer c.args.offset c.args.bytes.now) c.told.result c.update_buffer.result c.told.ensures c.update_buffer.ensures _ c.self.view_is
