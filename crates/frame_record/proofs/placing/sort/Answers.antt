use Rattle.std.proofs.Common.{rules}
use Rattle.std.proofs.lemmas.List.Sorted.{answers_always, IsNonDecreasingBy-from_sort}
use Rattle.std.proofs.lemmas.Result.{on_ok_weaker}
use Rattle.frame_record.specs.declared.placing.PlacedBlit.{PlacedBlit}
use Rattle.frame_record.specs.Seen.{entry_seen}
use Rattle.frame_record.proofs.Sorting.{sorted-keys}
use Rattle.frame_record.proofs.placing.sort.Goals as goal

pub returns : goal.returns
returns c =
    let keys = answers_always _ _ _ (λ f a r next called. search rules) in
    let stable = c.sort_by_key.ensures.stable (λ (p : PlacedBlit). p.position) keys in
    on_ok_weaker c.sort_by_key.result
    (λ sorted. sorted-keys (λ (p : PlacedBlit). p.position) (λ (p : PlacedBlit). entry_seen p.entry) _ _ (IsNonDecreasingBy-from_sort (λ (p : PlacedBlit). p.position) _ (sorted (λ (p : PlacedBlit). p.position) keys)) stable)
    c.sort_by_key.ensures.sorted
