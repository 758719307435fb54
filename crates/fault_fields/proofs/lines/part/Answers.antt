use Rattle.std.proofs.Common.{◌+◌, take, drop, arith}
use Rattle.std.proofs.lemmas.List.{take_rest, length-drop}
use Rattle.scene_model.specs.Field.{split_at}
use Rattle.fault_fields.proofs.Walks.{part_next, part_none}
use Rattle.fault_fields.proofs.lines.part.Goals as goal

pub loop-preserved : goal.loop-preserved
loop-preserved c = record {
  is = rw (take_rest c.loop.rest.now (c.in-Some.n + 1)) (part_next (take c.in-Some.n c.loop.rest.now) (split_at c.args.separator (drop (c.in-Some.n + 1) c.loop.rest.now)) (split_at c.args.separator c.loop.rest.now) c.args.place c.loop.counter _ c.in-Some.ensures.cases.1 c.loop-test.true c.loop.invariant.is);
  few = rw (take_rest c.loop.rest.now (c.in-Some.n + 1)) (omega (arith, length-drop (c.in-Some.n + 1) c.loop.rest.now, c.loop.invariant.few));
}

pub returns-in-None-clause-is : goal.returns-in-None-clause-is
returns-in-None-clause-is c = part_none c.loop.rest.now (split_at c.args.separator c.loop.rest.now) c.args.place c.loop.counter _ c.in-None.ensures.cases c.loop-test.true c.loop.invariant.is
