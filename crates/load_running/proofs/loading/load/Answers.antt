use Rattle.load_running.proofs.Ends.{too_long, refused, complete}
use Rattle.load_running.proofs.loading.load.Goals as goal

pub returns-clause-too_long : goal.returns-clause-too_long
returns-clause-too_long g c bytes told many nf = too_long c.run.result _ _ _ _ _ _ bytes c.run.ensures.ended told many nf

pub returns-clause-refused : goal.returns-clause-refused
returns-clause-refused g c bytes line told few is nf = refused c.run.result _ _ _ _ _ _ bytes line c.run.ensures.ended told few is nf

pub returns-clause-complete : goal.returns-clause-complete
returns-clause-complete g c bytes blocks told few is nf np = complete c.run.result _ _ _ _ _ _ bytes blocks c.run.ensures.ended told few is nf np
