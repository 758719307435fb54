use Rattle.std.proofs.Common.{[], ◌∷◌, map, sym, ap, subst, ◌∙◌}
use Rattle.std.proofs.lemmas.List.{map-append}
use Rattle.shared_items.specs.Items.{frame_pairs}
use Rattle.shared_items.specs.Seen.{pair_seen}
use Rattle.recorded_keys.specs.Recorded.{ArePlanned}
use Rattle.shares_running.specs.Listed.{pairs_seen}
use Rattle.shares_running.proofs.Lists.{list_more}
use Rattle.shares_running.proofs.pairing.pair.Goals as goal

pub returns : goal.returns
returns c = λ frames listed.
    list_more frame_pairs (pairs_seen c.args.lists.now.items) (pairs_seen c.push.new.self.items) (map pair_seen c.in_ok-pairs.pairs.items) frames c.args.frame.now
    (λ s k p entries at has. c.in_ok-pairs.ensures s k p at has.views (subst (ArePlanned p) (sym c.as_slice.ensures.value) (c.planned_law.ensures p c.args.frame.now.recordings.items has.gathered)))
    (ap pairs_seen c.in_ok-push.ensures.items ∙ map-append (λ v. map pair_seen v.items) c.args.lists.now.items (c.in_ok-pairs.pairs ∷ []))
    listed
