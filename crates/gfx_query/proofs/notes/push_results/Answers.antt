use Rattle.std.proofs.Common.{◌≤◌, ◌+◌, ◌++◌, length, drop, ap, sym, ◌∙◌, arith}
use Rattle.std.proofs.lemmas.List.{append-nil, drop_all}
use Rattle.gfx_query.specs.Queries.{query_notes}
use Rattle.gfx_query.proofs.Noting.{query_more}
use Rattle.gfx_query.proofs.notes.push_results.Goals as goal

pub loop-query-preserved : goal.loop-query-preserved
loop-query-preserved c =
    let q = c.loop-query.query in
    ap (λ xs. xs ++ query_notes (q + 1) (drop (q + 1) c.args.sums.now)) c.in_ok-push_result.ensures
    ∙ sym (query_more c.loop-query.text.items c.args.sums.now q c.loop-query-test.true) ∙ c.loop-query.invariant

pub returns : goal.returns
returns c =
    let last : length c.args.sums.now ≤ c.loop-query.query = omega arith in
    sym (append-nil c.loop-query.text.items) ∙ ap (λ rs. c.loop-query.text.items ++ query_notes c.loop-query.query rs) (sym (drop_all c.loop-query.query c.args.sums.now last)) ∙ c.loop-query.invariant
