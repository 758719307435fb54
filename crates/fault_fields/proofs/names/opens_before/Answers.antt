use Rattle.std.proofs.Common.{◌+◌, take, drop}
use Rattle.std.proofs.lemmas.List.{take_rest}
use Rattle.scene_model.specs.Field.{split_at}
use Rattle.fault_fields.proofs.Walks.{opens_next}
use Rattle.fault_fields.proofs.names.opens_before.Goals as goal

pub loop-preserved : goal.loop-preserved
loop-preserved c =
    rw (take_rest c.loop.rest.now (c.in-Some.n + 1)) (opens_next c.loop.opens (take c.in-Some.n c.loop.rest.now) (split_at 10 (drop (c.in-Some.n + 1) c.loop.rest.now)) (split_at 10 c.loop.rest.now) c.args.line c.loop.counter _ c.opens_behind-opens.result c.in-Some.ensures.cases.1 c.loop-test.true c.opens_behind-opens.ensures c.loop.invariant)
