use Rattle.std.specs.Prelude.{length}
use Rattle.shared_items.specs.Marked.{clash_at}
use Rattle.shared_items.proofs.Finds.{least_found, least_next}
use Rattle.shared_items.proofs.least.shared_items.Goals as goal

pub returns-in-Some : goal.returns-in-Some
returns-in-Some c =
    least_found (clash_at c.args.view c.args.lefts.now c.args.rights.now) c.loop-place.place (length c.args.lefts.now) (length c.args.rights.now) c.in-Some.other c.loop-place-test.true c.in-Some.ensures c.loop-place.invariant

pub loop-place-preserved : goal.loop-place-preserved
loop-place-preserved c =
    least_next (clash_at c.args.view c.args.lefts.now c.args.rights.now) c.loop-place.place (length c.args.lefts.now) (length c.args.rights.now) _ c.loop-place-test.true c.in_default.ensures c.loop-place.invariant
