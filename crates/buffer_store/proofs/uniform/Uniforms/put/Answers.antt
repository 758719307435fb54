use Rattle.std.proofs.Common.{arith}
use Rattle.buffer_store.proofs.SearchLaws.{filled_end}
use Rattle.buffer_store.proofs.uniform.Uniforms.put.Goals as goal

pub invariant_of-self : goal.invariant_of-self
invariant_of-self c =
    rw c.put.ensures
    (filled_end c.self.inside.end c.max-self-inside.result c.args.index c.args.uniform c.self.inside.row
    (omega (arith, c.max-self-inside.ensures)) (omega (arith, c.max-self-inside.ensures)) (omega (arith, c.max-self-inside.ensures, c.self.invariant.within, c.requires)) c.self.invariant)
