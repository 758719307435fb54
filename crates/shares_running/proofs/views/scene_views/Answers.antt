use Rattle.shared_keys.specs.Lines.{shared_views}
use Rattle.scene_text.specs.Seen.{scene_seen}
use Rattle.shares_running.specs.Listed.{lists_seen}
use Rattle.shares_running.proofs.Lists.{list_given}
use Rattle.shares_running.proofs.views.scene_views.Goals as goal

pub returns-in-Some : goal.returns-in-Some
returns-in-Some g c =
    list_given shared_views (scene_seen c.args.scene.now) (lists_seen c.in-Some.lists.items) _ _ _ _ c.in-Some.ensures c.play_frames-played.ensures.played.ended c.if-not-played.false c.plan_law.ensures.count
