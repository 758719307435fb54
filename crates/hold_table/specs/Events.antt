-- Which event of the schedule each kind of step is.
use Rattle.std.specs.Prelude.{◌≡◌, ℕ, zero, suc, ◌+◌, ◌<◌, ◌≤◌, ◌⊎◌, List, [], ◌∷◌, ◌++◌, length, slice_get, slice_set, slice_index, Some, true, false, IsTrue, ⊤}
use Rattle.std.specs.List.{AllByRecursion}
use mathlib.Core.Option.{some}
use lib.ListN.{get_elem?}
use mir.Syntax.{given}
use Rattle.atomic_table.specs.Table.{State as TableState, Step, Act, Allows, Splits, Joins, stepped, carried_after}
use Rattle.gfx_model.specs.Words.{is_usable_in}
use Rattle.schedule_model.specs.Machine.{free, live, dying, place_at, place_count, Thing, Recorder, State, Outcome, opening, Event, create, destroy, reclaim, begin, cancel, name, draw, end, collect, gather, take_back, give, advance, take_frame, return_frame, without, step}
use Rattle.schedule_model.specs.Held.{OnOpen, count_of, NumbersHold, PlacesFollow, Stands as ThingStands}
use Rattle.hold_table.specs.Words.{word_of}
use Rattle.hold_table.specs.Views.{api, SeatView, Asked, spent_view, Mine}
use Rattle.hold_table.specs.Rule.{recording, IsHeld}
use Rattle.atomic_table.specs.declared.shared.Split as Split
use Rattle.hold_table.specs.declared.view.Begin.{Begin}
use Rattle.hold_table.specs.declared.view.View.{View}
use Rattle.hold_table.specs.contracts.view.Draw.{the_row}
use Rattle.hold_table.specs.contracts.view.LawTableRuleUnitViewU32.TheImpl.{ghosts as table_rule}
use Rattle.hold_table.specs.contracts.view.BeginSplitView.TheImpl.{ghosts as begin_kind}
use Rattle.hold_table.specs.contracts.view.GatherJoinView.TheImpl.{ghosts as gather_kind}
use Rattle.hold_table.specs.contracts.view.LearnPlayUnitView.TheImpl.{ghosts as learn_kind}
use Rattle.hold_table.specs.contracts.view.DrawPlayUnitView.TheImpl.{ghosts as draw_kind}
use Rattle.hold_table.specs.contracts.view.AdvancePlayUnitView.TheImpl.{ghosts as advance_kind}
use Rattle.hold_table.specs.contracts.view.AskPlayUnitView.TheImpl.{ghosts as ask_kind}
use Rattle.hold_table.specs.contracts.view.CreatePlayUnitView.TheImpl.{ghosts as create_kind}
use Rattle.hold_table.specs.contracts.view.DestroyPlayUnitView.TheImpl.{ghosts as destroy_kind}
use Rattle.hold_table.specs.contracts.view.ReclaimPlayUnitView.TheImpl.{ghosts as reclaim_kind}

-- ---- what a table stands for

-- the table: its words and the views of its seats
abbrev pub Table : Type 0
Table = TableState (Unit {0}) SeatView

-- the view of a seat; a seat that is not there is as one that was joined
abbrev pub seat_at : List SeatView → ℕ → SeatView
seat_at [] i = spent_view
seat_at (v ∷ vs) zero = v
seat_at (v ∷ vs) (suc i) = seat_at vs i

-- a thing of a place that was asked, usable in the frame by the word found
abbrev pub IsName : ℕ → Asked → Thing → Type 0
IsName frame a t = (a.place ≡ t.place) × IsTrue (is_usable_in frame a.word t.serial)

-- the things are of places asked, in that order: each place asked gave one thing or none
abbrev pub AreNames : ℕ → List Asked → List Thing → Type 0
AreNames frame asked [] = ⊤
AreNames frame [] (t ∷ ts) = ⊥
AreNames frame (a ∷ asked) (t ∷ ts) = (IsName frame a t × AreNames frame asked ts) ⊎ AreNames frame asked (t ∷ ts)

-- a seat's view stands for a recorder, or for the bundle that it ended with
pub record IsOf (v : SeatView) (r : Recorder) : Type 0 where
  pub frame : r.frame ≡ v.frame
  pub places : r.places ≡ v.places
  pub greatest : r.greatest ≡ v.greatest
  pub numbers : r.numbers ≡ v.numbers
  pub names : AreNames v.frame v.asked r.named

-- the seats of a list stand for the recorders of a list, one for one
abbrev pub AreOf : List SeatView → List ℕ → List Recorder → Type 0
AreOf views [] [] = ⊤
AreOf views [] (r ∷ rs) = ⊥
AreOf views (i ∷ is) [] = ⊥
AreOf views (i ∷ is) (r ∷ rs) = IsOf (seat_at views i) r × AreOf views is rs

-- the seats that record, those whose bundles wait, and those whose bundles are collected: no seat knows which it is
pub record Stages : Type 0 where
  pub recording : List ℕ
  pub waiting : List ℕ
  pub collected : List ℕ

-- no seat is in a stage
abbrev pub no_seats : Stages
no_seats = record { recording = []; waiting = []; collected = [] }

-- the API's view, the counter and all views stand for a state of the schedule. The seats that are not joined are just
-- those of the stages, each once. Nothing is said of what no seat knows: whether the frame was given, the names that were
-- gathered, and the frames given, taken, returned and back
pub record Stands (me : SeatView) (counter : ℕ) (views : List SeatView) (x : Stages) (m : State) : Type 0 where
  pub frame : m.frame ≡ me.frame
  pub base : m.base ≡ me.base
  pub next : m.next ≡ counter
  pub places : m.places ≡ me.places
  pub greatest : m.greatest ≡ me.greatest
  pub gathered : m.gathered_numbers ≡ me.numbers
  pub begun : length me.off + me.joined ≤ m.begun
  pub recorders : AreOf views x.recording m.recorders
  pub waiting : AreOf views x.waiting m.waiting
  pub collected : AreOf views x.collected m.collected
  pub once : (id : ℕ) → count_of id x.recording + (count_of id x.waiting + count_of id x.collected) ≡ recording (seat_at views id)

-- a table of which the rule holds stands for a state of the schedule
abbrev pub StandsFor : {first : ℕ} {s : Table} → IsHeld first s → Stages → State → Type 0
StandsFor {first} {s} h x m = Stands h.me h.counter s.views x m

-- the event is allowed in the state, and the table stands for the state after it
abbrev pub IsEvent : {first : ℕ} {s : Table} → ℕ → IsHeld first s → Stages → State → Event → Type 0
IsEvent latency h x m e = (n : State) × (step latency m e ≡ Some n) × StandsFor h x n

-- ---- the stages after an event

-- one recorder more
abbrev pub begun_as : ℕ → Stages → Stages
begun_as id x = record x { recording = x.recording ++ id ∷ [] }

-- a recorder is gone
abbrev pub cancelled : ℕ → Stages → Stages
cancelled i x = record x { recording = without x.recording i }

-- a recorder has ended, and its bundle waits
abbrev pub ended_as : ℕ → ℕ → Stages → Stages
ended_as i id x = record x { recording = without x.recording i; waiting = x.waiting ++ id ∷ [] }

-- a waiting bundle is collected
abbrev pub collected_as : ℕ → ℕ → Stages → Stages
collected_as i id x = record x { waiting = without x.waiting i; collected = x.collected ++ id ∷ [] }

-- a collected bundle is in the frame
abbrev pub gathered_of : ℕ → Stages → Stages
gathered_of i x = record x { collected = without x.collected i }

-- ---- the steps, as the table's base makes them

-- the seat id, whose view is v, makes a step of a kind, which tells of the number r
pub record Plays (then : Step (Unit {0}) → Mine → ℕ → Mine → Type 0) (id : ℕ) (v : SeatView) (at : Step (Unit {0})) (r : ℕ) (s t : Table) : Type 0 where
  pub was : get_elem? s.views id ≡ some v
  pub hand : List (ℕ × Unit {0})
  pub written : ℕ
  pub act : Act (Unit {0})
  pub w : SeatView
  pub after : t ≡ stepped s at.word written id hand w act
  pub told : then at (v, hand) r (w, carried_after hand act)

-- the seat id, whose view is v, is cut in two, and the second is the seat behind all others
pub record Cuts (left right : SeatView → SeatView) (id : ℕ) (v : SeatView) (s t : Table) : Type 0 where
  pub was : get_elem? s.views id ≡ some v
  pub after : t ≡ record { words = s.words; homes = s.homes; views = slice_set s.views id (left v) ++ right v ∷ [] }

-- the seat id, whose view is v, takes in the seat other, whose view is w
pub record TakesIn (both : SeatView → SeatView → SeatView) (spent : SeatView) (id : ℕ) (v : SeatView) (other : ℕ) (w : SeatView) (s t : Table) : Type 0 where
  pub was : get_elem? s.views id ≡ some v
  pub apart : ¬ (other ≡ id)
  pub there : get_elem? s.views other ≡ some w
  pub after : t ≡ record { words = s.words; homes = s.homes; views = slice_set (slice_set s.views id (both v w)) other spent }

-- the code's kind of a split by which a recorder begins with the encoder number e, at a type that picks this number
abbrev pub split_kind : (e : ℕ) → Split.Ghosts (Begin (the_row.Denot)) View
split_kind e = begin_kind the_row (record { number = e }) (given 0)

-- ---- each kind of step, between two tables of which the rule holds

module _ (latency first : ℕ) (s t : Table) (h : IsHeld first s) (k : IsHeld first t) (x : Stages) (m : State) where
  -- a split is Begin, where fewer than 8 are begun and the frame is not given
  abbrev pub SplitIs : Type 0
  SplitIs = (e id : ℕ) (v : SeatView) → v.role ≡ api → m.begun < 8 → m.is_given ≡ false
      → Cuts (split_kind e).left (split_kind e).right id v s t → IsEvent latency k (begun_as (length s.views) x) m begin

  -- a join of a seat whose bundle is collected is Gather
  abbrev pub JoinIs : Type 0
  JoinIs = (i id other : ℕ) (v w : SeatView) → v.role ≡ api → slice_get x.collected i ≡ Some other
      → TakesIn gather_kind.both gather_kind.spent id v other w s t → IsEvent latency k (gathered_of i x) m (gather i)

  -- a join of a seat that records, drew no number and asked for nothing is Cancel
  abbrev pub UnbegunIs : Type 0
  UnbegunIs = (i id other : ℕ) (v w : SeatView) → v.role ≡ api → slice_get x.recording i ≡ Some other → w.numbers ≡ [] → w.asked ≡ []
      → TakesIn gather_kind.both gather_kind.spent id v other w s t → IsEvent latency k (cancelled i x) m (cancel i)

  -- what follows a join is no event
  abbrev pub LearnIs : Type 0
  LearnIs = (id : ℕ) (v : SeatView) (at : Step (Unit {0})) (r : ℕ) → v.role ≡ api → Plays learn_kind.then id v at r s t → StandsFor k x m

  -- a seat that records and draws a number is Draw
  abbrev pub DrawIs : Type 0
  DrawIs = (i id : ℕ) (v : SeatView) (at : Step (Unit {0})) (r : ℕ) → slice_get x.recording i ≡ Some id
      → Plays draw_kind.then id v at r s t → IsEvent latency k x m (draw i)

  -- an advance is Advance, where the frame was given and no recorder is off
  abbrev pub AdvanceIs : Type 0
  AdvanceIs = (id : ℕ) (v : SeatView) (at : Step (Unit {0})) (r : ℕ) → v.role ≡ api → v.off ≡ [] → m.is_given ≡ true
      → Plays advance_kind.then id v at r s t → IsEvent latency k x m advance

  -- a seat that records and asks a place by a load is Name of each thing that the word found makes usable, and no event of any other
  abbrev pub AskIs : Type 0
  AskIs = (i id p : ℕ) (v : SeatView) (at : Step (Unit {0})) (r : ℕ) → slice_get x.recording i ≡ Some id → at.word ≡ suc p → r ≡ slice_index s.words at.word
      → Plays ask_kind.then id v at r s t → (serial : ℕ)
      → (IsTrue (is_usable_in v.frame r serial) → IsEvent latency k x m (name i (record { place = p; serial = serial })))
      × (is_usable_in v.frame r serial ≡ false → StandsFor k x m)

  -- a free place that becomes live with a serial above all is Create, where the frame is not given
  abbrev pub CreateIs : Type 0
  CreateIs = (id p serial : ℕ) (v : SeatView) (at : Step (Unit {0})) (r : ℕ) → v.role ≡ api → at.word ≡ suc p → r ≡ word_of (live serial)
      → p < place_count → place_at v.places p ≡ free → v.greatest < serial → m.is_given ≡ false
      → Plays create_kind.then id v at r s t → IsEvent latency k x m (create p serial)

  -- a live place that becomes dying is Destroy, where the frame is not given
  abbrev pub DestroyIs : Type 0
  DestroyIs = (id p serial : ℕ) (v : SeatView) (at : Step (Unit {0})) (r : ℕ) → v.role ≡ api → at.word ≡ suc p → r ≡ word_of (dying serial v.frame)
      → place_at v.places p ≡ live serial → m.is_given ≡ false
      → Plays destroy_kind.then id v at r s t → IsEvent latency k x m (destroy p)

  -- a dying place that becomes free is Reclaim, where no frame that may be out names its thing
  abbrev pub ReclaimIs : Type 0
  ReclaimIs = (id p serial death : ℕ) (v : SeatView) (at : Step (Unit {0})) (r : ℕ) → v.role ≡ api → at.word ≡ suc p
      → place_at v.places p ≡ dying serial death → death + 1 + latency ≤ v.frame
      → Plays reclaim_kind.then id v at r s t → IsEvent latency k x m (reclaim p)

-- ---- what is no step of the table

module _ (latency first : ℕ) (s : Table) (h : IsHeld first s) (x : Stages) (m : State) where
  -- End and Collect change the stages alone
  abbrev pub EndIs : Type 0
  EndIs = (i id : ℕ) → slice_get x.recording i ≡ Some id → IsEvent latency h (ended_as i id x) m (end i)

  abbrev pub CollectIs : Type 0
  CollectIs = (i id : ℕ) → slice_get x.waiting i ≡ Some id → IsEvent latency h (collected_as i id x) m (collect i)

  -- the events of the handover change nothing that the table knows
  abbrev pub HandoverIs : Type 0
  HandoverIs = (n : State) → ((targets : List Thing) → step latency m (give targets) ≡ Some n → StandsFor h x n)
      × (step latency m take_back ≡ Some n → StandsFor h x n) × (step latency m take_frame ≡ Some n → StandsFor h x n)
      × ((o : Outcome) → step latency m (return_frame o) ≡ Some n → StandsFor h x n)

-- a law of each step between two tables of which the rule holds, where the first stands for a state
abbrev pub OfSteps : (ℕ → (first : ℕ) (s t : Table) → IsHeld first s → IsHeld first t → Stages → State → Type 0) → Type 0
OfSteps L = (latency first : ℕ) (s t : Table) (h : IsHeld first s) (k : IsHeld first t) (x : Stages) (m : State) → StandsFor h x m → L latency first s t h k x m

-- a law of each table of which the rule holds and which stands for a state
abbrev pub OfTables : (ℕ → (first : ℕ) (s : Table) → IsHeld first s → Stages → State → Type 0) → Type 0
OfTables L = (latency first : ℕ) (s : Table) (h : IsHeld first s) (x : Stages) (m : State) → StandsFor h x m → L latency first s h x m

-- ---- what the rule says of the schedule

-- the parts of what holds of the schedule that the table's rule keeps: all of the numbers; the frames of recorders and
-- bundles; how places follow; and that what recorders and bundles named stands
pub record PartsHold (m : State) : Type 0 where
  pub numbers : NumbersHold m
  pub frames : OnOpen (λ r. r.frame ≡ m.frame) m
  pub places : OnOpen (PlacesFollow m) m
  pub names : OnOpen (λ r. AllByRecursion (ThingStands m r.frame) r.named) m

-- what stands for a state under the rule keeps the parts of the schedule's invariant
abbrev pub RuleKeepsParts : Type 0
RuleKeepsParts = (first : ℕ) (s : Table) (h : IsHeld first s) (x : Stages) (m : State) → StandsFor h x m → PartsHold m

-- ---- what a call's proof gives the base is such a step

-- where the base allows a step of a kind, which tells of the number found or of the number stored, the table can go on by it
abbrev pub IsPlayed : (Step (Unit {0}) → Mine → ℕ → Mine → Type 0) → Type 0
IsPlayed then = (first slots id : ℕ) (v : SeatView) (hand : List (ℕ × Unit {0})) (at : Step (Unit {0})) (f tells : ℕ → ℕ)
    → Allows (IsHeld first) slots id (v, hand) at.word f (λ n. then at (v, hand) (tells n))
    → (s : Table) → IsHeld first s → length s.homes ≡ slots → get_elem? s.views id ≡ some v → slice_index s.words at.word < 18446744073709551616
    → (t : Table) × IsHeld first t × Plays then id v at (tells (slice_index s.words at.word)) s t

-- a split that the table's base admits leaves the rule, and is a cut
abbrev pub IsCut : (SeatView → SeatView) → (SeatView → SeatView) → Type 0
IsCut left right = (first id : ℕ) (v : SeatView) → Splits (IsHeld first) id v (left v) (right v)
    → (s : Table) → IsHeld first s → get_elem? s.views id ≡ some v → (t : Table) × IsHeld first t × Cuts left right id v s t

-- a join that the base admits leaves the rule, and takes the other seat in
abbrev pub IsTakenIn : (SeatView → SeatView → SeatView) → SeatView → Type 0
IsTakenIn both spent = (first id : ℕ) (v : SeatView) (other : ℕ) (w : SeatView) → Joins (IsHeld first) id v other w (both v w) spent
    → (s : Table) → IsHeld first s → get_elem? s.views id ≡ some v → ¬ (other ≡ id) → get_elem? s.views other ≡ some w → (t : Table) × IsHeld first t × TakesIn both spent id v other w s t

-- each kind of step is played so
abbrev pub AllArePlayed : Type 0
AllArePlayed = IsPlayed learn_kind.then × IsPlayed draw_kind.then × IsPlayed advance_kind.then × IsPlayed ask_kind.then
    × IsPlayed create_kind.then × IsPlayed destroy_kind.then × IsPlayed reclaim_kind.then
    × IsTakenIn gather_kind.both gather_kind.spent × ((e : ℕ) → IsCut (split_kind e).left (split_kind e).right)

-- each table of which the rule holds stands for some state
abbrev pub EachStands : Type 0
EachStands = (first : ℕ) (s : Table) (h : IsHeld first s) → (x : Stages) × (m : State) × StandsFor h x m

-- a new table stands for the opening state
abbrev pub NewIsOpening : Type 0
NewIsOpening = (first : ℕ) (s : Table) (h : IsHeld first s) → s.views ≡ table_rule.first first ∷ [] → StandsFor h no_seats (opening first)
