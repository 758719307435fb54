-- Which event of the schedule each step of the bundle queue is.
use Rattle.std.specs.Prelude.{◌≡◌, ℕ, ◌<◌, List, [], ◌∷◌, ◌++◌, length, slice_get, slice_set, Some}
use mathlib.Core.Option.{some}
use lib.ListN.{get_elem?}
use Rattle.crossbeam_queue.specs.Fifo.{Pushes, Pops, Admits}
use Rattle.schedule_model.specs.Machine.{State, opening, Event, end, collect, step}
use Rattle.hold_table.specs.Rule.{IsHeld}
use Rattle.hold_table.specs.contracts.view.LawTableRuleUnitViewU32.TheImpl.{ghosts as table_rule}
use Rattle.hold_table.specs.Events.{Table, Stages, no_seats, StandsFor, ended_as, collected_as}
use Rattle.draw_encoder.specs.Posts.{Posted, seat_of, seats_in, PassView, new_pass, Posts, Takes, IsBalanced}

-- the queue: the bundles in it, the oldest first, and what its passes know
pub record Queue : Type 0 where
  pub items : List Posted
  pub views : List PassView

-- a queue that keeps its rule
abbrev pub IsKept : Queue → Type 0
IsKept q = IsBalanced q.items q.views

-- a new queue, with its first pass
abbrev pub new_queue : Queue
new_queue = record { items = []; views = new_pass ∷ [] }

-- the hold table and the queue stand for a state of the schedule: the bundles that wait are those in the queue, in its order
pub record StandFor {first : ℕ} {s : Table} (h : IsHeld first s) (q : Queue) (x : Stages) (m : State) : Type 0 where
  pub table : StandsFor h x m
  pub queue : x.waiting ≡ seats_in q.items

-- the event is allowed in the state, and the hold table and the queue after it stand for the state after it
abbrev pub IsEvent : {first : ℕ} {s : Table} → ℕ → IsHeld first s → Queue → Stages → State → Event → Type 0
IsEvent latency h r y m e = (n : State) × (step latency m e ≡ Some n) × StandFor h r y n

-- ---- the steps, as the queue makes them

-- a pass, whose view is v, puts a bundle in
pub record Pushed (pass : ℕ) (v : PassView) (b : Posted) (q r : Queue) : Type 0 where
  pub was : get_elem? q.views pass ≡ some v
  pub w : PassView
  pub after : r ≡ record { items = q.items ++ b ∷ []; views = slice_set q.views pass w }
  pub told : Posts v b w

-- a pass, whose view is v, takes the oldest bundle out
pub record Popped (pass : ℕ) (v : PassView) (b : Posted) (q r : Queue) : Type 0 where
  pub was : get_elem? q.views pass ≡ some v
  pub first : q.items ≡ b ∷ r.items
  pub w : PassView
  pub views : r.views ≡ slice_set q.views pass w
  pub told : Takes v b w

-- ---- each kind of step

module _ (latency first : ℕ) (s : Table) (h : IsHeld first s) (q : Queue) (x : Stages) (m : State) where
  -- a push of the bundle of a seat that records is End, by which the bundle waits behind all others
  abbrev pub PushIs : Type 0
  PushIs = (i pass : ℕ) (v : PassView) (b : Posted) (r : Queue) → slice_get x.recording i ≡ Some (seat_of b) → Pushed pass v b q r
      → IsEvent latency h r (ended_as i (seat_of b) x) m (end i)

  -- a pop is Collect of the bundle that has waited longest
  abbrev pub PopIs : Type 0
  PopIs = (pass : ℕ) (v : PassView) (b : Posted) (r : Queue) → Popped pass v b q r → IsEvent latency h r (collected_as 0 (seat_of b) x) m (collect 0)

  -- a new pass is no event
  abbrev pub PassIs : Type 0
  PassIs = StandFor h (record q { views = q.views ++ new_pass ∷ [] }) x m

-- a law of each queue and hold table that stand for a state
abbrev pub OfQueues : (ℕ → (first : ℕ) (s : Table) → IsHeld first s → Queue → Stages → State → Type 0) → Type 0
OfQueues L = (latency first : ℕ) (s : Table) (h : IsHeld first s) (q : Queue) (x : Stages) (m : State) → StandFor h q x m → L latency first s h q x m

-- a step of the hold table by which no bundle comes to wait, and none that waits is collected, leaves the queue as it is
abbrev pub TableIs : Type 0
TableIs = (first : ℕ) (s t : Table) (h : IsHeld first s) (k : IsHeld first t) (q : Queue) (x y : Stages) (m n : State)
    → StandFor h q x m → StandsFor k y n → y.waiting ≡ x.waiting → StandFor k q y n

-- a new hold table and a new queue stand for the opening state
abbrev pub NewIs : Type 0
NewIs = (first : ℕ) (s : Table) (h : IsHeld first s) → s.views ≡ table_rule.first first ∷ [] → StandFor h new_queue no_seats (opening first)

-- ---- what a call's proof gives the queue is such a step

-- where the queue admits a push, it can go on by it, and keeps its rule
abbrev pub IsPushed : Type 0
IsPushed = (room pass : ℕ) (v : PassView) (b : Posted) → Pushes IsBalanced room pass v b (Posts v b)
    → (q : Queue) → IsKept q → length q.items < room → get_elem? q.views pass ≡ some v → (r : Queue) × IsKept r × Pushed pass v b q r

-- where it admits a pop, it can go on by it where a bundle waits
abbrev pub IsPopped : Type 0
IsPopped = (pass : ℕ) (v : PassView) → Pops IsBalanced pass v (Takes v)
    → (q : Queue) (b : Posted) (rest : List Posted) → q.items ≡ b ∷ rest → IsKept q → get_elem? q.views pass ≡ some v → (r : Queue) × IsKept r × Popped pass v b q r

-- where it admits a new pass, there is one
abbrev pub IsAdmitted : Type 0
IsAdmitted = Admits IsBalanced new_pass → (q : Queue) → IsKept q → IsKept (record q { views = q.views ++ new_pass ∷ [] })

-- a new queue keeps the rule
abbrev pub NewIsKept : Type 0
NewIsKept = IsKept new_queue
