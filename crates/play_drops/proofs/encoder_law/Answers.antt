use Rattle.play_drops.proofs.Joined.{encoder-law}
use Rattle.play_drops.proofs.encoder_law.Goals as goal

pub returns : goal.returns
returns c = encoder-law c.step_law.ensures
