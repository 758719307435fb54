use Rattle.std.proofs.Common.{sym, ap, ◌∙◌}
use Rattle.hold_table.specs.Seats.{table_of}
use Rattle.context_core.specs.States.{opened_core}
use Rattle.c_calls.proofs.context.new_core.Goals as goal

pub returns-in-Ok : goal.returns-in-Ok
returns-in-Ok c =
    let tied = c.in_ok-table.ensures.0 ∙ sym (ap table_of c.in_ok-shared.ensures) in
    c.in-Ok.ensures.begins ∙ (λ j. record { table = tied j; state = opened_core (record { frame = 0; serial = 1; views = 512; latency = 1 }) })
