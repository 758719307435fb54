use Rattle.std.proofs.Common.{◌≡◌, None, length, arith}
use Rattle.gfx_model.proofs.PartlyMapped.{partly-set, partly-done}
use Rattle.gfx_query.specs.Queries.{newest_of}
use Rattle.gfx_query.proofs.notes.take_over.Goals as goal

pub loop-query-preserved : goal.loop-query-preserved
loop-query-preserved c =
    partly-set (newest_of c.args.sums.now) c.loop-query.query c.args.results.now c.loop-query.results c.later_of.result None c.loop-query.invariant c.later_of.ensures (omega (arith, c.loop-query-test.true, c.loop-query.auto.results))

pub returns : goal.returns
returns c =
    let last : c.loop-query.query ≡ length c.args.results.now = omega (arith, c.loop-query.auto.results) in
    partly-done (newest_of c.args.sums.now) c.loop-query.query c.args.results.now c.loop-query.results c.loop-query.invariant last
