use Rattle.store_model.proofs.SlotLaws.{blit_same}
use Rattle.store_model.proofs.blit_law.Goals as goal

pub returns : goal.returns
returns c = blit_same
