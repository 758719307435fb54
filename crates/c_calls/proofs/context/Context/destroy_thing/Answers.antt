use Rattle.c_calls.specs.Rendered.{rendering_of}
use Rattle.c_calls.proofs.On.{on_destroys}
use Rattle.c_calls.proofs.Told.{destroys_told}
use Rattle.c_calls.proofs.context.Context.destroy_thing.Goals as goal

pub invariant_of-self : goal.invariant_of-self
invariant_of-self c = (on_destroys c.self.invariant.0 c.destroy.new.self c.args.h c.destroy.result c.destroy.ensures.answer, c.self.invariant.1)

pub returns : goal.returns
returns c = destroys_told c.self.inside.things.rows.items (rendering_of c.self.inside.renderer) c.self.inside.standing c.self.inside.renderer.sink.capacity c.self.inside.core c.destroy.new.self c.args.h c.told.result c.destroy.result c.told.ensures c.destroy.ensures.answer _ c.self.view_is
