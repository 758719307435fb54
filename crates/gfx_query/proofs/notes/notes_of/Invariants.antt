use Rattle.std.proofs.Common.{◌≡◌, ◌*◌, ◌++◌, length, map, drop}
use Rattle.gfx_query.specs.Queries.{notes_from, notes_of}
use Rattle.gfx_query.specs.Seen.{frame_seen, script_seen}
use Rattle.gfx_query.specs.SeenFrames.{target_seen}
use Rattle.gfx_query.proofs.notes.notes_of.Given as goal

-- the notes so far, and those of the frames that are left
abbrev pub invariant-loop-frame : goal.invariant-loop-frame
invariant-loop-frame l = record {
  notes : l.text.items ++ notes_from l.script.sides.width l.script.sides.height l.frame l.results (target_seen l.target) (map frame_seen (drop l.frame l.script.frames.items)) ≡ notes_of (script_seen l.script);
  whole : length l.target.words.items ≡ l.script.sides.width * l.script.sides.height;
  long : length l.results ≡ 64;
}
