use Rattle.buffer_store.proofs.SearchLaws.{emptied_end}
use Rattle.buffer_store.proofs.uniform.Uniforms.remove.Goals as goal

pub invariant_of-self : goal.invariant_of-self
invariant_of-self c = rw c.take.ensures.left (emptied_end c.self.inside.end c.args.index c.self.inside.row c.self.invariant)
