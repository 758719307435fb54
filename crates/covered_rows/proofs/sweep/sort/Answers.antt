use Rattle.std.proofs.Common.{rules}
use Rattle.std.proofs.lemmas.List.Sorted.{answers_always}
use Rattle.std.proofs.lemmas.Result.{on_ok_weaker}
use Rattle.covered_rows.specs.declared.runs.Run.{Run}
use Rattle.covered_rows.proofs.Order.{in-order}
use Rattle.covered_rows.proofs.sweep.sort.Goals as goal

pub returns-clause-order : goal.returns-clause-order
returns-clause-order c =
    let keys = answers_always _ _ _ (λ f a r next called. search rules) in
    on_ok_weaker c.sort_by_key.result (λ sorted. in-order _ (sorted (λ (r : Run). (r.key, r.row, r.first)) keys)) c.sort_by_key.ensures.sorted
