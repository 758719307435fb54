use Rattle.std.proofs.Common.{◌≡◌}
use Rattle.spelling_model.specs.Written.{written}
use Rattle.spelling_model.proofs.Writing.{writing-law}
use Rattle.scene_text.specs.Seen.{scene_seen}
use Rattle.scene_text.proofs.WrittenScenes.{whole_text}
use Rattle.scene_text.proofs.scene_writing.write.Goals as goal

the_text : (c : goal.In_ok-put_line) → c.put_line.new.text.items ≡ written (scene_seen c.args.scene.now)
the_text c = whole_text c.args.scene.now _ _ _ (rw c.new-text.ensures.items at c.in_ok-put_head.ensures) (rw (c.as_slice-names.ensures, c.as_slice.ensures) at c.in_ok-put_frames.ensures) c.in_ok-put_line.ensures

pub returns-clause-text : goal.returns-clause-text
returns-clause-text c = the_text c

pub returns-clause-again : goal.returns-clause-again
returns-clause-again c readable = rw (the_text c) (writing-law (scene_seen c.args.scene.now) readable).1
