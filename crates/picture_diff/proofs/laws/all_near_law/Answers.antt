use Rattle.picture_diff.proofs.Nears.{judged-forth, judged-back}
use Rattle.picture_diff.proofs.laws.all_near_law.Goals as goal

pub returns : goal.returns
returns c near asked ps ds all e = (judged-forth near asked ps ds all e, judged-back near asked ps ds e)
