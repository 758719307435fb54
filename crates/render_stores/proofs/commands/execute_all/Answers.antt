use Rattle.render_stores.proofs.Begun.{begun_more, begun_all, begun_stopped, on_err_holds}
use Rattle.render_stores.proofs.commands.execute_all.Goals as goal

pub loop-command-preserved : goal.loop-command-preserved
loop-command-preserved c = begun_more _ _ _ _ _ _ _ _ c.loop-command.invariant c.in-Some.ensures c.in_ok-execute.ensures.done

pub returns-clause-done : goal.returns-clause-done
returns-clause-done c = begun_all _ _ _ _ _ c.loop-command.invariant c.in_default.ensures.0

pub returns-in_err-execute-clause-begun : goal.returns-in_err-execute-clause-begun
returns-in_err-execute-clause-begun c =
    on_err_holds c.from_residual.result
    (begun_stopped _ _ _ _ _ _ _ _ c.loop-command.invariant c.in-Some.ensures c.in_err-execute.ensures.needs c.in_err-execute.ensures.changes c.in_err-execute.ensures.kept)
