use Rattle.ring_turning.proofs.turning.turn_ring.Goals as goal

pub returns-in_default-clause-turned : goal.returns-in_default-clause-turned
returns-in_default-clause-turned g c = c.nothing.ensures.turned c.args.frames
