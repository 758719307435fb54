use Rattle.capture_running.proofs.Filmed.{film-can, film-texts, text-long}
use Rattle.capture_running.proofs.laws.film_law.Goals as goal

pub returns-clause-texts : goal.returns-clause-texts
returns-clause-texts c = film-texts

pub returns-clause-length : goal.returns-clause-length
returns-clause-length c = text-long

pub returns-clause-captured : goal.returns-clause-captured
returns-clause-captured c = film-can
