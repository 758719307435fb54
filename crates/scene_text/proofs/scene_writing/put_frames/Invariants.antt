use Rattle.std.proofs.Common.{◌≡◌, ◌++◌, take, map, flat_map}
use Rattle.scene_text.specs.Seen.{name_seen}
use Rattle.scene_text.specs.WrittenParts.{frame_text}
use Rattle.scene_text.proofs.scene_writing.put_frames.Given as goal

-- the text of those so far
abbrev pub invariant-loop-frame : goal.invariant-loop-frame
invariant-loop-frame l = l.text.items ≡ l.initial.text.items ++ flat_map (frame_text (map name_seen l.names)) (take l.frame-index l.frames)
