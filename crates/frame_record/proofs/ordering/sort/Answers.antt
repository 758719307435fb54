use Rattle.std.proofs.Common.{rules}
use Rattle.std.proofs.lemmas.List.Sorted.{answers_always, IsNonDecreasingBy-from_sort}
use Rattle.std.proofs.lemmas.Result.{on_ok_weaker}
use Rattle.gfx_model.specs.Views.{key_bits}
use Rattle.frame_record.specs.declared.ordering.OrderedItem.{OrderedItem}
use Rattle.frame_record.specs.Seen.{entry_seen}
use Rattle.frame_record.proofs.Sorting.{sorted-keys}
use Rattle.frame_record.proofs.ordering.sort.Goals as goal

pub returns : goal.returns
returns c =
    let keys = answers_always _ _ _ (λ f a r next called. search rules) in
    let stable = c.sort_by_key.ensures.stable (λ (k : OrderedItem). key_bits k.key) keys in
    on_ok_weaker c.sort_by_key.result
    (λ sorted. sorted-keys (λ (k : OrderedItem). key_bits k.key) (λ (k : OrderedItem). entry_seen k.entry) _ _ (IsNonDecreasingBy-from_sort (λ (k : OrderedItem). key_bits k.key) _ (sorted (λ (k : OrderedItem). key_bits k.key) keys)) stable)
    c.sort_by_key.ensures.sorted
