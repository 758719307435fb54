use Rattle.std.proofs.Common.{◌≡◌, ◌++◌, take, map}
use Rattle.scene_model.specs.Output.{journal_text}
use Rattle.scene_text.specs.Seen.{entry_seen}
use Rattle.scene_text.proofs.journal_writing.put_frames.Given as goal

-- the frames so far
abbrev pub invariant-loop-frame : goal.invariant-loop-frame
invariant-loop-frame l = l.text.items ≡ l.initial.text.items ++ journal_text (map (map entry_seen) (take l.frame-index l.frames))
