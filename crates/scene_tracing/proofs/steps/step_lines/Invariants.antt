use Rattle.std.proofs.Common.{◌≡◌, ◌+◌, ◌++◌, map, drop}
use Rattle.trace_lines.specs.Seen.{doer_seen}
use Rattle.trace_lines.specs.Steps.{step_lines}
use Rattle.scene_tracing.specs.Asked.{numbers_told}
use Rattle.scene_tracing.proofs.steps.step_lines.Given as goal

abbrev pub invariant-loop-place : goal.invariant-loop-place
invariant-loop-place l = l.text.items ++ step_lines (numbers_told l.numbers) (l.place + 1) (map doer_seen (drop l.place l.doers)) ≡ step_lines (numbers_told l.numbers) 1 (map doer_seen l.doers)
