use Rattle.shares_running.specs.Lines.{IsText}
use Rattle.shares_running.proofs.Ends.{put_noted}
use Rattle.scene_text.specs.Seen.{scene_seen}
use Rattle.shares_running.proofs.sharing.note_scene.Goals as goal

pub returns-in-Ok-clause-noted : goal.returns-in-Ok-clause-noted
returns-in-Ok-clause-noted g c = put_noted (IsText c.args.job c.args.bytes.now (scene_seen c.args.scene.now)) c.put_lines.result _ _ _ _ (rw c.as_slice.ensures.value at c.put_lines.ensures.put) c.in-Ok.ensures
