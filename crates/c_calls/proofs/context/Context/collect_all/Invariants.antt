use Rattle.std.proofs.Common.{◌≡◌}
use Rattle.c_calls.specs.Calls.{Gathers}
use Rattle.c_calls.proofs.context.Context.collect_all.Given as goal

abbrev pub invariant-loop-number : goal.invariant-loop-number
invariant-loop-number l = Gathers l.initial.self.core l.self.core × (l.self ≡ record l.initial.self { core = l.self.core })
