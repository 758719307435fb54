use Rattle.std.proofs.Common.{◌≡◌, ◌≤◌, ◌++◌, [], List, map, drop}
use Rattle.load_text.specs.Seen.{line_seen}
use Rattle.res_lock.specs.Histories.{LockEntry, part_of}
use Rattle.res_lock.specs.Called.{IsSamePass}
use Rattle.res_lock.specs.Seats.{pass_view, caller_of, made_by}
use Rattle.load_running.specs.BlockCalls.{AreCallsFrom}
use Rattle.load_running.specs.Lines.{IsSameBut}
use Rattle.load_running.proofs.blocks.run_lines.Given as goal

-- the pass is the same but for what it has seen, and what follows the calls so far as the calls of the lines that are left makes the block's calls
abbrev pub invariant-loop-line : goal.invariant-loop-line
invariant-loop-line g l = record {
  same : IsSamePass l.fn.pass l.pass;
  view : IsSameBut (pass_view l.fn.pass) (pass_view l.pass);
  item : l.item ≡ l.line-index;
  made : made_by l.pass ≤ l.line-index;
  calls : (rest : List LockEntry) → AreCallsFrom l.things.items (map line_seen (drop l.line-index l.lines)) rest → AreCallsFrom [] (map line_seen l.lines) (part_of (caller_of l.fn.pass) (pass_view l.pass).seen ++ rest);
}
