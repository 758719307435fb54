use Rattle.draw_encoder.proofs.Balance.{admits}
use Rattle.draw_encoder.proofs.posting.BundleQueue.is_empty.Goals as goal

pub pass-pass-requires : goal.pass-pass-requires
pass-pass-requires g c = admits
