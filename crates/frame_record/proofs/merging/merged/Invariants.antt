use Rattle.std.proofs.Common.{map}
use Rattle.gfx_model.specs.Frames.{numbered_entries}
use Rattle.frame_record.specs.Merged.{pair_of}
use Rattle.frame_record.specs.Seen.{recorded_seen}
use Rattle.frame_record.proofs.MergeLaws.{IsMerged}
use Rattle.frame_record.proofs.merging.merged.Given as goal

-- so many of each list are taken, and what is left follows in order
abbrev pub invariant-loop : goal.invariant-loop
invariant-loop l = IsMerged (map pair_of l.left) (numbered_entries (recorded_seen l.recording)) (map pair_of l.all.items) l.at l.beside l.counter
