use Rattle.hold_table.specs.Seats.{enc_view}
use Rattle.res_lock.proofs.FrameLaws.{gathered_kept}
use Rattle.res_lock.proofs.GivenLaws.{gathered_given}
use Rattle.res_lock.proofs.state.LockState.gather.Goals as goal

pub invariant_of-self : goal.invariant_of-self
invariant_of-self g c = (c.self.invariant.0, gathered_kept g.H.HistoryNaming.start g.H.HistoryNaming.book _ _ c.self.invariant.1 c.args.bundle.0 (enc_view c.args.bundle.1) c.gather.new.self c.gather.ensures, gathered_given g.C.Naming.admits g.C.Naming.views g.H.HistoryNaming.start g.H.HistoryNaming.book g.H.HistoryNaming.given _ _ _ c.self.invariant.2 c.args.bundle.0 (enc_view c.args.bundle.1) c.gather.ensures)
