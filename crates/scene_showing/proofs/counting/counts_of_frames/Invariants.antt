use Rattle.std.proofs.Common.{◌≡◌, map, take}
use Rattle.scene_showing.proofs.Counts.{entry_counts}
use Rattle.scene_showing.proofs.counting.counts_of_frames.Given as goal

-- the entries of the frames so far are counted
abbrev pub invariant-loop-frame : goal.invariant-loop-frame
invariant-loop-frame l = l.counts.items ≡ map (entry_counts l.encoders) (take l.frame-index l.frames)
