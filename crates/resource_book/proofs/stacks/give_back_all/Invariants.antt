use Rattle.std.proofs.Common.{◌≡◌, ◌≤◌, ◌<◌, ◌+◌, ℕ, true, map, filter, drop}
use Rattle.std.specs.List.{AllByRecursion}
use Rattle.gfx_model.specs.Resources.{is_over, pushed_on}
use Rattle.schedule_model.specs.Held.{count_of}
use Rattle.resource_laws.specs.Lawful.{count_where, waits_at}
use Rattle.resource_book.specs.Stacks.{waiting_seen}
use Rattle.resource_book.proofs.stacks.give_back_all.Given as goal

abbrev pub invariant-loop-i : goal.invariant-loop-i
invariant-loop-i l = record {
  limit : l.free.limit ≡ l.initial.free.limit;
  once : (index : ℕ) → index < l.free.limit → count_of index l.free.free + count_where (waits_at index (λ d. true)) (map waiting_seen (drop l.i l.waiting)) ≤ 1;
  below : AllByRecursion (λ w. w.0 < l.free.limit) (map waiting_seen (drop l.i l.waiting));
  pushed : pushed_on (map (λ w. w.0) (filter (λ w. is_over l.latency l.frame w.1) (map waiting_seen (drop l.i l.waiting)))) l.free.free
      ≡ pushed_on (map (λ w. w.0) (filter (λ w. is_over l.latency l.frame w.1) (map waiting_seen l.initial.waiting))) l.initial.free.free;
}
