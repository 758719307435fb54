use Rattle.std.proofs.Common.{sym}
use Rattle.res_lock.proofs.link.NamedLinkFrameLink.take_back.Goals as goal

pub invariant_of-self : goal.invariant_of-self
invariant_of-self g c = g.met.N.LinkNaming.by_origin _ _ (sym c.take_back.ensures.origin) c.self.invariant
