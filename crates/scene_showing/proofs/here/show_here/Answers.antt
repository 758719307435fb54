use Rattle.scene_text.specs.Seen.{scene_seen}
use Rattle.scene_showing.proofs.Orders.{none_front}
use Rattle.scene_showing.proofs.here.show_here.Goals as goal

pub returns-in-Err-clause-front : goal.returns-in-Err-clause-front
returns-in-Err-clause-front g c = none_front (scene_seen c.args.scene.now) _ c.nothing.ensures.journal
