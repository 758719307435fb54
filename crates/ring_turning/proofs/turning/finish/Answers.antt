use Rattle.std.proofs.Common.{◌≤◌, length, slice_index_or, None, ap, ◌∙◌, arith}
use Rattle.ring_turning.specs.Turning.{first_after}
use Rattle.ring_turning.proofs.Outcomes.{outcome_closed}
use Rattle.ring_turning.proofs.Turns.{turned_when_back}
use Rattle.ring_turning.proofs.turning.finish.Goals as goal

pub returns-clause-turned : goal.returns-clause-turned
returns-clause-turned g c many of_turn =
    let closes = c.shutdown-closed.ensures.closes in
    let kept = c.tell_facts.ensures.keeps in
    let few : length closes.came ≤ 3 = let a = kept.few in let b = kept.latency.1 in let m = closes.many in omega (arith, a, b, m) in
    let third = c.later-outcome.ensures in
    let second = c.later-2.ensures in
    let first = c.later.ensures in
    let told = third ∙ ap (λ o. first_after o (slice_index_or c.shutdown-closed.result.backs 2 None)) (second ∙ ap (λ o. first_after o (slice_index_or c.shutdown-closed.result.backs 1 None)) first) in
    turned_when_back many c.args.context.given _ _ c.args.told.is_whole _ of_turn closes.given_is closes.unchanged
    (told ∙ outcome_closed c.args.told.outcome c.shutdown-closed.result.backs c.args.context.back closes.came _ few c.requires.outcome closes.back_is closes.notes_are)
