use Rattle.std.proofs.Common.{◌+◌, ◌∙◌, sym, take, drop}
use Rattle.std.proofs.lemmas.List.{take_rest}
use Rattle.scene_model.specs.Field.{split_at}
use Rattle.fault_fields.specs.Names.{makes}
use Rattle.fault_fields.proofs.Walks.{any_next}
use Rattle.fault_fields.proofs.names.is_made.Goals as goal

pub loop-preserved : goal.loop-preserved
loop-preserved c =
    rw (take_rest c.loop.rest.now (c.in-Some.n + 1)) (any_next (makes c.args.uniforms c.args.name.now) (take c.in-Some.n c.loop.rest.now) (split_at 10 (drop (c.in-Some.n + 1) c.loop.rest.now)) (split_at 10 c.loop.rest.now) c.args.line c.loop.counter _ c.in-Some.ensures.cases.1 c.loop-test.true (sym c.makes.ensures ∙ c.if-makes.false) c.loop.invariant)
