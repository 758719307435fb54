use Rattle.std.proofs.Common.{◌≡◌, ◌≤◌, ℕ, map, drop}
use Rattle.load_text.specs.Loads.{lines_of}
use Rattle.load_text.specs.Seen.{block_seen}
use Rattle.load_running.proofs.running.callers_of.Given as goal

-- a caller that is not below the count has its lines, if it has any, in the blocks that are left
abbrev pub invariant-loop-block : goal.invariant-loop-block
invariant-loop-block l = record {
  some : 1 ≤ l.count;
  most : l.count ≤ 8;
  left : (c : ℕ) → l.count ≤ c → lines_of c (map block_seen (drop l.block-index l.blocks)) ≡ lines_of c (map block_seen l.blocks);
}
