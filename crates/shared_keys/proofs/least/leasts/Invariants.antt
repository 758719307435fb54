use Rattle.std.proofs.Common.{◌≡◌, map, drop, fold}
use Rattle.shared_keys.specs.Marks.{shared_seen}
use Rattle.shared_keys.specs.Steps.{with_step, leasts_of}
use Rattle.shared_keys.proofs.least.leasts.Given as goal

-- what is kept, with the steps that are left
abbrev pub invariant-loop-step : goal.invariant-loop-step
invariant-loop-step l = fold with_step (map shared_seen l.kept.items) (map shared_seen (drop l.step-index l.steps)) ≡ leasts_of (map shared_seen l.steps)
