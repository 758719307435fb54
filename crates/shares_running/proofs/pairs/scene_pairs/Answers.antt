use Rattle.shared_items.specs.Items.{frame_pairs}
use Rattle.scene_text.specs.Seen.{scene_seen}
use Rattle.shares_running.specs.Listed.{pairs_seen}
use Rattle.shares_running.proofs.Lists.{list_given, few_lists}
use Rattle.shares_running.proofs.pairs.scene_pairs.Goals as goal

pub returns-in-Some-clause-pairs : goal.returns-in-Some-clause-pairs
returns-in-Some-clause-pairs g c =
    list_given frame_pairs (scene_seen c.args.scene.now) (pairs_seen c.in-Some.lists.items) _ _ _ _ c.in-Some.ensures c.play_frames-played.ensures.played.ended c.if-not-played.false c.plan_law.ensures.count

pub returns-in-Some-clause-few : goal.returns-in-Some-clause-few
returns-in-Some-clause-few g c =
    few_lists (scene_seen c.args.scene.now) c.in-Some.lists.items
    (list_given frame_pairs (scene_seen c.args.scene.now) (pairs_seen c.in-Some.lists.items) _ _ _ _ c.in-Some.ensures c.play_frames-played.ensures.played.ended c.if-not-played.false c.plan_law.ensures.count)
    c.plan_law.ensures.count c.requires.bounded.few_frames
