use Rattle.std.proofs.Common.{◌≡◌, ◌++◌, map, take}
use Rattle.shared_items.specs.Lines.{numbers_seen, paired_lines}
use Rattle.shared_items.specs.Seen.{pair_seen}
use Rattle.shared_items.proofs.lines.push_pair_lines.Given as goal

-- the lines of the pairs so far stand behind the others
abbrev pub invariant-loop-pair : goal.invariant-loop-pair
invariant-loop-pair l = l.lines.items ≡ l.initial.lines.items ++ paired_lines l.frame (numbers_seen l.numbers) (map pair_seen (take l.pair-index l.pairs))
