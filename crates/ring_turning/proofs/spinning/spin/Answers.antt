use Rattle.std.proofs.Common.{sym, ap, subst}
use Rattle.ring_turning.specs.Spinning.{IsStopped}
use Rattle.ring_turning.proofs.Shown.{none_shown}
use Rattle.ring_turning.proofs.spinning.spin.Goals as goal

pub spin_with-requires-clause-new : goal.spin_with-requires-clause-new
spin_with-requires-clause-new g c κs within = record { stores = ap (λ r. r.stores) c.in-Ok.ensures.new; outcomes = ap (λ r. r.outcomes) c.in-Ok.ensures.new }

pub returns-in-Err-clause-spun : goal.returns-in-Err-clause-spun
returns-in-Err-clause-spun g c =
    subst (IsStopped c.args.frames (g.P.Sink.held c.args.sink)) (sym (ap g.P.Sink.held c.in-Err.ensures.comes_back)) (none_shown c.args.frames (g.P.Sink.held c.args.sink))
