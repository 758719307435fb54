use Rattle.picture_diff.proofs.Nears.{near-forth, near-back}
use Rattle.picture_diff.proofs.laws.near_law.Goals as goal

pub returns : goal.returns
returns c near p q a b wide high = (near-forth near p q a b wide high, near-back near p q)
