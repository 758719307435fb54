use Rattle.std.proofs.Common.{◌∙◌, ap, filter_map, map, List}
use Rattle.shared_keys.specs.declared.marks.SharedView.{SharedView}
use Rattle.shared_keys.specs.Marks.{shared_seen}
use Rattle.shared_items.specs.Items.{pair_in}
use Rattle.recorded_keys.proofs.Planned.{all-there}
use Rattle.recorded_keys.proofs.pairs.recorded_pairs.Goals as goal

pub returns : goal.returns
returns c = λ s k p e v h.
    c.in_ok-pairs.ensures p v h (all-there c.there_law.ensures s k p c.args.recordings.now e h)
    ∙ ap (λ (xs : List SharedView). filter_map (pair_in p) (map shared_seen xs)) c.deref.ensures.value
    ∙ ap (filter_map (pair_in p)) (c.in_ok-shared.ensures s k p e v h)
