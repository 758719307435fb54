use Rattle.std.proofs.Common.{◌∙◌, ap, map}
use Rattle.shared_items.specs.Items.{pair_in}
use Rattle.shared_items.specs.Seen.{pair_seen}
use Rattle.recorded_keys.proofs.PairLaws.{pairs-step-at, put-seen}
use Rattle.recorded_keys.proofs.pairs.pairs_of.Goals as goal

pub loop-view-preserved : goal.loop-view-preserved
loop-view-preserved c = λ p v h all.
    pairs-step-at (pair_in p) c.args.shared.now c.loop-view.view-index _ (map pair_seen c.loop-view.pairs.items) (map pair_seen c.put_pair.new.pairs.items) _ _
    c.loop-view-test.true (c.loop-view.invariant p v h all)
    (ap (map pair_seen) c.in_ok-put_pair.ensures ∙ put-seen c.loop-view.pairs.items _)
    (c.in_ok-pair_in.ensures p v h all)
