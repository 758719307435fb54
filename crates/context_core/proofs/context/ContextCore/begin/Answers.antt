use Rattle.std.proofs.Common.{ap, ◌∙◌}
use Rattle.hold_table.specs.Seats.{enc_view}
use Rattle.context_core.specs.States.{CoreView}
use Rattle.context_core.proofs.context.ContextCore.begin.Goals as goal

pub returns-in-Err-clause-answer : goal.returns-in-Err-clause-answer
returns-in-Err-clause-answer c =
    let l = c.in_ok-seat.ensures in (
      l.accepted,
      c.take_again.ensures c.args.self.now.state (record { fresh_still = ap enc_view c.in-Err.ensures.err ∙ l.seat; same_still = ap (λ (o : CoreView). o.state) l.after })
          ∙ ap (λ (o : CoreView). record o { state = c.args.self.now.state }) l.after,
    )
