use Rattle.std.proofs.Common.{◌≡◌, ◌++◌, map, take}
use Rattle.shared_keys.specs.Lines.{frame_lines}
use Rattle.shared_keys.specs.Marks.{shared_seen}
use Rattle.shared_keys.proofs.lines.push_lines.Given as goal

-- the lines of the views so far
abbrev pub invariant-loop-view : goal.invariant-loop-view
invariant-loop-view l = l.lines.items ≡ l.fn.lines.items ++ frame_lines l.frame (map shared_seen (take l.view-index l.shared))
