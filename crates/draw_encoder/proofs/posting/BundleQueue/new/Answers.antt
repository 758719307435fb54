use Rattle.draw_encoder.proofs.Balance.{begins}
use Rattle.draw_encoder.proofs.posting.BundleQueue.new.Goals as goal

pub ruled-requires-clause-rule : goal.ruled-requires-clause-rule
ruled-requires-clause-rule g c = begins
