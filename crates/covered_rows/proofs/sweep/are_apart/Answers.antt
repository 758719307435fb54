use Rattle.std.proofs.Common.{ap, sym, ◌∙◌}
use Rattle.covered_rows.specs.Sweep.{sweep_of}
use Rattle.covered_rows.proofs.Swept.{swept}
use Rattle.covered_rows.proofs.Meeting.{unswept}
use Rattle.covered_rows.proofs.sweep.are_apart.Goals as goal

pub returns-clause-apart : goal.returns-clause-apart
returns-clause-apart c = λ apart.
    swept c.args.runs.items c.sort.new.runs.items c.in_ok-sort.ensures.same c.in_ok-sort.ensures.order (ap sweep_of (sym c.deref.ensures.value) ∙ sym c.sweep-apart.ensures ∙ apart)

pub returns-clause-meet : goal.returns-clause-meet
returns-clause-meet c = λ apart some.
    unswept c.args.runs.items c.sort.new.runs.items c.in_ok-sort.ensures.same c.in_ok-sort.ensures.order (ap sweep_of (sym c.deref.ensures.value) ∙ sym c.sweep-apart.ensures ∙ apart) some
