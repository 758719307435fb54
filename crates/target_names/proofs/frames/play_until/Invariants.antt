use Rattle.scene_text.specs.Seen.{scene_seen}
use Rattle.scene_check.specs.Scenes.{IsReached}
use Rattle.target_names.proofs.frames.play_until.Given as goal

abbrev pub invariant-loop-number : goal.invariant-loop-number
invariant-loop-number l = IsReached (scene_seen l.scene) l.number l.book l.handles.items
