use Rattle.std.proofs.Common.{◌≡◌, ◌≤◌, not, map, filter, take, drop, length}
use Rattle.gfx_model.specs.Resources.{is_over}
use Rattle.resource_book.specs.Stacks.{waiting_seen}
use Rattle.resource_book.proofs.stacks.keep_later.Given as goal

abbrev pub invariant-loop-i : goal.invariant-loop-i
invariant-loop-i l = record {
  few : l.later ≤ l.i;
  long : length l.waiting.items ≡ length l.initial.waiting.items;
  kept : map waiting_seen (take l.later l.waiting.items) ≡ filter (λ w. not (is_over l.latency l.frame w.1)) (map waiting_seen (take l.i l.initial.waiting.items));
  rest : drop l.i l.waiting.items ≡ drop l.i l.initial.waiting.items;
}
