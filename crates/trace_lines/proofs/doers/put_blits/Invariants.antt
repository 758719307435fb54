use Rattle.std.proofs.Common.{◌≡◌, ◌++◌, map, take, filter}
use Rattle.gfx_model.specs.World.{is_blit}
use Rattle.frame_record.specs.Seen.{entry_seen, recordings_seen}
use Rattle.trace_laws.specs.Doers.{has_in}
use Rattle.trace_lines.proofs.doers.put_blits.Given as goal

abbrev pub invariant-loop-entry : goal.invariant-loop-entry
invariant-loop-entry l = map entry_seen l.entries.items ≡ map entry_seen l.fn.entries.items ++ filter (has_in is_blit (recordings_seen l.frame.recordings.items)) (map entry_seen (take l.entry-index l.journal))
