-- The rule of the history's table: what holds between any two steps.
use Rattle.std.specs.Prelude.{◌≡◌, ◌⊎◌, ℕ, ◌+◌, ◌≤◌, nat_lt, if◌then◌else◌, List, [], ◌∷◌, length, Option, Some, None, IfSome}
use mathlib.Core.Option.{some}
use lib.ListN.{get_elem?}
use Rattle.atomic_table.specs.Table.{State}
use Rattle.schedule_model.specs.Held.{count_of}
use Rattle.res_lock.specs.Histories.{LockEntry, part_of}
use Rattle.res_lock.specs.Views.{Heard, PassView, GoesOn}

-- f of each view, added up
abbrev pub total : (PassView → ℕ) → List PassView → ℕ
total f [] = 0
total f (v ∷ vs) = f v + total f vs

-- how often a caller stands in what was heard
abbrev pub count_heard : ℕ → Option Heard → ℕ
count_heard c None = 0
count_heard c (Some h) = count_of c h.callers

-- how often the pass has a caller
abbrev pub has_caller : ℕ → PassView → ℕ
has_caller c v = count_of c v.callers + count_heard c v.heard

-- how many callers were heard
abbrev pub heard_length : Option Heard → ℕ
heard_length None = 0
heard_length (Some h) = length h.callers

-- how many callers a pass has
abbrev pub caller_count : PassView → ℕ
caller_count v = length v.callers + heard_length v.heard

-- 1 where there is a pen
abbrev pub pen_count : Option (List LockEntry) → ℕ
pen_count None = 0
pen_count (Some log) = 1

-- 1 for a pass that may append
abbrev pub has_pen : PassView → ℕ
has_pen v = pen_count v.pen

-- 1 below a number, and 0 elsewhere
abbrev pub once_below : ℕ → ℕ → ℕ
once_below next c = if nat_lt c next then 1 else 0

-- what holds of the view of the seat i: it has seen a beginning of the history with the whole part of its callers, so has what it heard; where it may append
-- it has the history; and only the seat 0 is the first pass, with the number of the next caller
pub record IsPass (log : List LockEntry) (next i : ℕ) (v : PassView) : Type 0 where
  pub sees : GoesOn v.callers v.seen log
  pub hears : IfSome v.heard (λ h. GoesOn h.callers h.seen log)
  pub writes : IfSome v.pen (λ xs. xs ≡ log)
  pub first : (v.next ≡ 0) ⊎ ((i ≡ 0) × (v.next ≡ next))

-- what holds of the history, the next caller's number and all views: each caller is of one pass, one pass may append, and no later caller has an entry
pub record Kept (log : List LockEntry) (next : ℕ) (views : List PassView) : Type 0 where
  pub each : (i : ℕ) (v : PassView) → get_elem? views i ≡ some v → IsPass log next i v
  pub once : (c : ℕ) → total (has_caller c) views ≡ once_below next c
  pub counted : total caller_count views ≡ next
  pub pens : total has_pen views ≡ 1
  pub beyond : (c : ℕ) → next ≤ c → part_of c log ≡ []

-- the one word counts the history
pub record IsHeld (key : Unit {0}) (s : State (Unit {0}) PassView) : Type 0 where
  pub log : List LockEntry
  pub next : ℕ
  pub words : s.words ≡ length log ∷ []
  pub kept : Kept log next s.views
