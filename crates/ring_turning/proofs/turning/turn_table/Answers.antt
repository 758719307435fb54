use Rattle.std.proofs.Common.{ap, ◌∙◌}
use Rattle.ring_turning.proofs.Turns.{at_first}
use Rattle.ring_turning.proofs.turning.turn_table.Goals as goal

pub play-told-requires-clause-at : goal.play-told-requires-clause-at
play-told-requires-clause-at g c κs within =
    let begins = c.in-Ok-init.ensures.begins in
    at_first c.in-Ok-init.context (ap (λ v. v.seat.frame) begins) (ap (λ v. v.is_ended) begins) (ap (λ v. v.begun) begins) (ap (λ v. v.given) begins ∙ c.requires.none.0)

pub returns-in_default-clause-turned : goal.returns-in_default-clause-turned
returns-in_default-clause-turned g c = c.nothing.ensures.turned c.args.frames

pub returns-in-Ok-init-clause-turned : goal.returns-in-Ok-init-clause-turned
returns-in-Ok-init-clause-turned g c = c.finish.ensures.turned c.args.frames c.play-told.ensures.given

pub returns-clause-turned : goal.returns-clause-turned
returns-clause-turned g c = c.nothing-in-Err.ensures.turned c.args.frames
