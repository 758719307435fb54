use Rattle.std.proofs.Common.{◌≡◌}
use Rattle.gfx_model.proofs.PartlyMapped.{partly}
use Rattle.gfx_query.specs.Queries.{newest_of}
use Rattle.gfx_query.proofs.notes.take_over.Given as goal

-- the results before the query are taken over
abbrev pub invariant-loop-query : goal.invariant-loop-query
invariant-loop-query l = l.results ≡ partly (newest_of l.fn.sums) 0 l.query l.fn.results
