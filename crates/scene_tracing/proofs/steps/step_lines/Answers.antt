use Rattle.std.proofs.Common.{◌+◌, ◌++◌, map, get_or, ap, ◌∙◌, arith}
use Rattle.trace_lines.specs.declared.doers.Doer.{Doer}
use Rattle.trace_lines.specs.declared.doers.Doer.TheVariants as doers
use Rattle.trace_lines.specs.Seen.{doer_seen}
use Rattle.trace_lines.specs.Steps.{step_line, step_lines}
use Rattle.scene_tracing.specs.Asked.{numbers_told}
use Rattle.scene_tracing.proofs.StepLines.{got-self, steps-next, steps-past}
use Rattle.scene_tracing.proofs.steps.step_lines.Goals as goal

pub loop-place-preserved : goal.loop-place-preserved
loop-place-preserved c =
    let a = c.args in
    let l = c.loop-place in
    let d : Doer = get_or a.doers.now l.place (doers.Clear 0) in
    steps-next (numbers_told a.numbers.now) a.doers.now l.place d l.text.items c.put_step.new.text.items (step_lines (numbers_told a.numbers.now) 1 (map doer_seen a.doers.now))
    c.loop-place-test.true (got-self a.doers.now l.place _ c.loop-place-test.true) l.invariant
    (c.in_ok-put_step.ensures ∙ ap (λ o. l.text.items ++ step_line (l.place + 1) (doer_seen d) o) c.number_of-line.ensures)

pub returns : goal.returns
returns c =
    let a = c.args in
    steps-past (numbers_told a.numbers.now) a.doers.now c.loop-place.place c.loop-place.text.items (step_lines (numbers_told a.numbers.now) 1 (map doer_seen a.doers.now)) (omega arith) c.loop-place.invariant
