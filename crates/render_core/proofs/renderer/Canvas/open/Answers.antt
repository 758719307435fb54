use Rattle.std.proofs.Common.{inl, inr}
use Rattle.render_core.proofs.Wants.{no_entry, some_entry, some_takes, on_err_holds}
use Rattle.render_core.proofs.renderer.Canvas.open.Goals as goal

pub returns-in_err-execute_all-clause-needs : goal.returns-in_err-execute_all-clause-needs
returns-in_err-execute_all-clause-needs c = on_err_holds c.from_residual.result (inr (inl (some_takes c.args.frame.now.pre c.in_err-execute_all.ensures.begun)))

pub returns-in_err-fill-clause-needs : goal.returns-in_err-fill-clause-needs
returns-in_err-fill-clause-needs c =
    let frame = c.args.frame.now in
    on_err_holds c.from_residual-in_err-fill.result (inl (some_entry _ frame.journal.items c.is_empty.result frame.journal.ok.0 c.is_empty.ensures c.if-is_empty.false))

pub returns-then-is_empty-clause-listed : goal.returns-then-is_empty-clause-listed
returns-then-is_empty-clause-listed c some =
    let frame = c.args.frame.now in
    absurd (some (no_entry _ frame.journal.items c.is_empty.result frame.journal.ok.0 c.is_empty.ensures c.if-is_empty.true))
