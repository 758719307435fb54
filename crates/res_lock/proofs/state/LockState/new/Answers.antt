use Rattle.std.proofs.Common.{rules}
use Rattle.res_lock.proofs.KeptLaws.{opening_kept}
use Rattle.res_lock.proofs.GivenLaws.{opening_given}
use Rattle.res_lock.proofs.state.LockState.new.Goals as goal

pub invariant_of-result : goal.invariant_of-result
invariant_of-result g c = (search rules, opening_kept g.H.HistoryNaming.start g.H.HistoryNaming.book _ _ c.requires.start.0 c.requires.start.1 c.requires.book c.in-Ok.ensures.ok.0, opening_given g.C.Naming.admits g.C.Naming.views g.H.HistoryNaming.start g.H.HistoryNaming.book g.H.HistoryNaming.given _ _ c.requires.given c.in-Ok.ensures.ok.0)
