use Rattle.ring_turning.proofs.Calls.{submitted}
use Rattle.ring_turning.proofs.recording.draw.Goals as goal

pub returns-clause-one : goal.returns-clause-one
returns-clause-one g c =
    submitted c.args.things.now c.args.steps c.args.number _ _ c.args.encoder.now c.set_transform.new.self c.set_uniform.new.self c.set_vertices.new.self c.submit.new.self c.submit.result
    c.turn.ensures c.color.ensures c.requires.plain c.set_transform.ensures c.in_ok-set_uniform.ensures c.in_ok-set_vertices.ensures c.submit.ensures
