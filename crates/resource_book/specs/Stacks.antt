-- The indices of a kind.
use Rattle.std.specs.Prelude.{ℕ, ◌<◌, ◌≤◌, ◌+◌, true, List, ◌∷◌}
use Rattle.std.specs.List.{AllByRecursion}
use Rattle.gfx_model.specs.Resources.{Book, book_at_start}
use Rattle.schedule_model.specs.Held.{count_of}
use Rattle.resource_laws.specs.Lawful.{count_where, waits_at}
use Rattle.resource_book.specs.declared.stacks.Waiting.{Waiting}

-- a kind's book, and how many indices the kind has
pub record StackView : Type 0 where
  pub limit : ℕ
  pub free : List ℕ
  pub waiting : List (ℕ × ℕ)

-- what the definitions know of it
abbrev pub book_seen : StackView → Book
book_seen s = record { free = s.free; waiting = s.waiting }

-- an index that waits, and its frame of death
abbrev pub waiting_seen : Waiting → ℕ × ℕ
waiting_seen w = (w.index, w.death)

-- a stack with an index on top
abbrev pub with_top : ℕ → StackView → StackView
with_top index s = record s { free = index ∷ s.free }

-- each index is free or waits at most once, and those that wait are the kind's
pub record CanReclaim (s : StackView) : Type 0 where
  pub once : (index : ℕ) → index < s.limit → count_of index s.free + count_where (waits_at index (λ d. true)) s.waiting ≤ 1
  pub below : AllByRecursion (λ w. w.0 < s.limit) s.waiting

-- a stack at the start of a frame
abbrev pub reclaimed : (latency frame : ℕ) → StackView → StackView
reclaimed latency frame s = record {
  limit = s.limit;
  free = (book_at_start latency frame (book_seen s)).free;
  waiting = (book_at_start latency frame (book_seen s)).waiting;
}
