use Rattle.store_laws.proofs.RunLaws.{run_shows}
use Rattle.store_laws.proofs.pictures_law.Goals as goal

pub returns : goal.returns
returns c = run_shows
