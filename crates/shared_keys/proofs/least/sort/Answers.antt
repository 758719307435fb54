use Rattle.std.proofs.Common.{rules}
use Rattle.std.proofs.lemmas.List.Sorted.{answers_always}
use Rattle.std.proofs.lemmas.Result.{on_ok_weaker}
use Rattle.shared_keys.specs.declared.marks.Mark.{Mark}
use Rattle.shared_keys.proofs.Order.{in-order}
use Rattle.shared_keys.proofs.least.sort.Goals as goal

pub returns-clause-order : goal.returns-clause-order
returns-clause-order c =
    let keys = answers_always _ _ _ (λ f a r next called. search rules) in
    on_ok_weaker c.sort_by_key.result (λ sorted. in-order _ (sorted (λ (m : Mark). (m.view, m.is_blit, m.key, m.encoder)) keys)) c.sort_by_key.ensures.sorted
