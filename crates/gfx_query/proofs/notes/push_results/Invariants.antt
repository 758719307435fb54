use Rattle.std.proofs.Common.{◌≡◌, ◌++◌, drop}
use Rattle.gfx_query.specs.Queries.{query_notes}
use Rattle.gfx_query.proofs.notes.push_results.Given as goal

-- the notes so far, and those of the queries that are left
abbrev pub invariant-loop-query : goal.invariant-loop-query
invariant-loop-query l = l.text.items ++ query_notes l.query (drop l.query l.sums) ≡ l.fn.text.items ++ query_notes 0 l.sums
