use Rattle.gfx_context.proofs.Openings.{linked_new}
use Rattle.gfx_context.proofs.context.Context.init.Goals as goal

pub invariant_of-result : goal.invariant_of-result
invariant_of-result g c = linked_new c.args.start c.in-Ok.core _ c.in-Ok.ensures.begins c.requires.table c.requires.views c.requires.latency.2 c.requires.none_out
