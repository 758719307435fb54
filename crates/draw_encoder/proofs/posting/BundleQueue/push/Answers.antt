use Rattle.draw_encoder.proofs.Balance.{admits, pushes}
use Rattle.draw_encoder.proofs.posting.BundleQueue.push.Goals as goal

pub pass-pass-requires : goal.pass-pass-requires
pass-pass-requires g c = admits

pub push_as-requires-clause-rule : goal.push_as-requires-clause-rule
push_as-requires-clause-rule g c = (pushes _ _ _ _, λ items views h at. tt)
