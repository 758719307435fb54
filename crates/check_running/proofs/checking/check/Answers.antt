use Rattle.check_running.proofs.Ends.{too_long, refused, complete, silent, counted}
use Rattle.check_running.proofs.checking.check.Goals as goal

pub returns-clause-too_long : goal.returns-clause-too_long
returns-clause-too_long g c bytes told many no_read no_tell = too_long c.run.result _ _ _ _ _ _ _ _ _ bytes c.run.ensures.ended told many no_read no_tell

pub returns-clause-refused : goal.returns-clause-refused
returns-clause-refused g c bytes fault told few is no_read no_tell = refused c.run.result _ _ _ _ _ _ _ _ _ bytes fault c.run.ensures.ended told few is no_read no_tell

pub returns-clause-complete : goal.returns-clause-complete
returns-clause-complete g c bytes s told few is no_read no_put = complete c.run.result _ _ _ _ _ _ _ _ _ bytes s c.run.ensures.ended told few is no_read no_put

pub returns-clause-silent : goal.returns-clause-silent
returns-clause-silent g c bytes text s told is was done = silent c.run.result _ _ _ _ _ _ _ _ _ bytes text s c.run.ensures.ended told is was done c.silent_law.ensures

pub returns-clause-counted : goal.returns-clause-counted
returns-clause-counted g c bytes text s told is was done = counted c.run.result _ _ _ _ _ _ _ _ _ bytes text s c.run.ensures.ended told is was done c.count_law.ensures
