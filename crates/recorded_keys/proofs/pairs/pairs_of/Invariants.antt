use Rattle.std.proofs.Common.{◌≡◌, ◌++◌, drop, map, filter_map}
use Rattle.std.specs.List.{AllByRecursion}
use Rattle.gfx_model.specs.Views.{view_count}
use Rattle.scene_model.specs.Fold.{FramePlan}
use Rattle.shared_keys.specs.Marks.{shared_seen, IsThere}
use Rattle.shared_items.specs.Items.{pair_in}
use Rattle.shared_items.specs.Seen.{pair_seen}
use Rattle.draw_encoder.specs.Bundles.{items_of}
use Rattle.recorded_keys.specs.Recorded.{ArePlanned}
use Rattle.recorded_keys.proofs.pairs.pairs_of.Given as goal

-- the pairs so far, and those of the views that are left
abbrev pub invariant-loop-view : goal.invariant-loop-view
invariant-loop-view l =
    (p : FramePlan) → l.views ≡ p.views → ArePlanned p l.recordings → AllByRecursion (λ r. AllByRecursion (IsThere (view_count p.views)) (items_of r)) l.recordings
    → map pair_seen l.pairs.items ++ filter_map (pair_in p) (map shared_seen (drop l.view-index l.shared)) ≡ filter_map (pair_in p) (map shared_seen l.shared)
