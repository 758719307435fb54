use Rattle.draw_encoder.proofs.Balance.{admits, pops}
use Rattle.draw_encoder.proofs.posting.BundleQueue.pop.Goals as goal

pub pass-pass-requires : goal.pass-pass-requires
pass-pass-requires g c = admits

pub pop_as-requires-clause-rule : goal.pop_as-requires-clause-rule
pop_as-requires-clause-rule g c = (pops _ _, λ items views h at. tt)
