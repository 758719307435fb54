use Rattle.std.proofs.Common.{◌≡◌, ◌++◌, drop}
use Rattle.scene_text.specs.Seen.{scene_seen}
use Rattle.shares_running.specs.Lines.{pairs_from}
use Rattle.shares_running.specs.Listed.{pairs_seen}
use Rattle.shares_running.proofs.pairs.pair_lines_of.Given as goal

-- the lines so far, and those of the lists that are left, are those of all
abbrev pub invariant-loop-number : goal.invariant-loop-number
invariant-loop-number l = l.lines.items ++ pairs_from l.bytes (scene_seen l.scene) l.number (drop l.number (pairs_seen l.lists)) ≡ pairs_from l.bytes (scene_seen l.scene) 0 (pairs_seen l.lists)
