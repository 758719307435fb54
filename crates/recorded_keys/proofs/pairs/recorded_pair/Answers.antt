use Rattle.std.proofs.Common.{◌≡◌, ◌∙◌, map}
use Rattle.shared_keys.specs.Marks.{shared_seen}
use Rattle.draw_encoder.specs.Bundles.{items_of}
use Rattle.recorded_keys.specs.Pairs.{clash_mark, pair_by_marks}
use Rattle.recorded_keys.proofs.pairs.recorded_pair.Goals as goal

pub returns : goal.returns
returns c = λ one two.
    let lefts : c.deref.result.now ≡ map (clash_mark c.args.views.now c.args.first.now.encoder) (items_of c.args.first.now) = c.deref.ensures.value ∙ c.in_ok-lefts.ensures one in
    let rights : c.deref-2.result.now ≡ map (clash_mark c.args.views.now c.args.second.now.encoder) (items_of c.args.second.now) = c.deref-2.ensures.value ∙ c.in_ok-rights.ensures two in
    c.pair_by_marks.ensures ∙ (λ i. pair_by_marks (shared_seen c.args.shared.now) (lefts i) (rights i))
