use Rattle.std.proofs.Common.{◌≡◌, ◌++◌, drop}
use Rattle.picture_diff.specs.Lines.{frame_lines}
use Rattle.picture_diff.proofs.lines.lines_of.Given as goal

abbrev pub invariant-loop-frame : goal.invariant-loop-frame
invariant-loop-frame l = l.lines.items ++ frame_lines l.frame (drop l.frame l.differences) ≡ frame_lines 0 l.differences
