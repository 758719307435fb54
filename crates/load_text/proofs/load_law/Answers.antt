use Rattle.load_text.proofs.LoadLaws.{load_law}
use Rattle.load_text.proofs.load_law.Goals as goal

pub returns : goal.returns
returns c = load_law
