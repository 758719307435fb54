-- What the calls of a core are to the schedule.
use Rattle.std.specs.Prelude.{◌≡◌, ◌≢◌, ℕ, suc, ◌+◌, ◌-◌, ◌<◌, ◌≤◌, Bool, true, false, not, nat_lt, List, [], ◌∷◌, ◌++◌, map, length, Option, Some, None, Result, Ok, slice_get, ⊤}
use Rattle.std.specs.List.{find}
use Rattle.atomic_table.specs.Seated.{TableId}
use Rattle.atomic_table.specs.Table.{Step}
use Rattle.gfx_model.specs.Words.{Kind, Handle, greatest, first_place, place_of_handle}
use Rattle.gfx_model.specs.World.{Change}
use Rattle.gfx_model.specs.Recorder.{Room}
use Rattle.gfx_model.specs.Views.{View}
use Rattle.gfx_model.specs.Resources.{ResourceCall, Thing as Held, destroy as destroy_call, effect, references_of, is_at, is_kept_thing}
use Rattle.schedule_model.specs.Machine.{live, dying, free, place_at, Thing, State, Event, create, destroy, reclaim, begin, cancel, gather, take_back, give, advance, take_frame, return_frame, Outcome, step, out, opening}
use Rattle.hold_table.specs.Views.{SeatView, gathered, advanced}
use Rattle.hold_table.specs.Rule.{IsHeld}
use Rattle.hold_table.specs.Words.{word_of}
use Rattle.hold_table.specs.Events.{Table, Stages, no_seats, StandsFor, split_kind, begun_as, cancelled, gathered_of, Cuts, TakesIn, Plays}
use Rattle.hold_table.specs.contracts.view.LawTableRuleUnitViewU32.TheImpl.{ghosts as hold_rule}
use Rattle.hold_table.specs.contracts.view.GatherJoinView.TheImpl.{ghosts as gather_kind}
use Rattle.hold_table.specs.contracts.view.LearnPlayUnitView.TheImpl.{ghosts as learn_kind}
use Rattle.hold_table.specs.contracts.view.AdvancePlayUnitView.TheImpl.{ghosts as advance_kind}
use Rattle.hold_table.specs.contracts.view.CreatePlayUnitView.TheImpl.{ghosts as create_kind}
use Rattle.hold_table.specs.contracts.view.DestroyPlayUnitView.TheImpl.{ghosts as destroy_kind}
use Rattle.hold_table.specs.contracts.view.ReclaimPlayUnitView.TheImpl.{ghosts as reclaim_kind}
use Rattle.frame_swap.specs.Rule as swap_rule
use Rattle.frame_swap.specs.Events as rings
use Rattle.frame_swap.specs.Views.{api, Slot, Slots, SwapView}
use Rattle.frame_swap.specs.declared.content.Content.TheVariants.{Given}
use Rattle.frame_swap.specs.contracts.view.LawTableRuleOptionContentViewU8.TheImpl.{ghosts as ring_rule}
use Rattle.frame_swap.specs.contracts.view.GivePlayOptionContentView.TheImpl.{ghosts as give_kind}
use Rattle.frame_record.specs.declared.frame.Frame.{Frame}
use Rattle.draw_encoder.specs.declared.items.Recording.{Recording}
use Rattle.resource_laws.specs.Lawful.{IsLawful}
use Rattle.resource_book.specs.declared.frames.Work.{Work}
use Rattle.resource_book.specs.declared.opening.Start.{Start}
use Rattle.context_core.specs.declared.begin.Lent.{Lent}
use Rattle.context_core.specs.Gathered.{anything}
use Rattle.context_core.specs.Kept.{IsCore}
use Rattle.context_core.specs.Calls.{Makes, Destroys, Lends, IsLentLast, destroyed}
use Rattle.context_core.specs.Ended.{Gathers, MakesFrame, StartsNext}
use Rattle.context_core.specs.States.{CoreState, CoreView, own, core_of, opened_core}

-- ---- the names of a frame's views

-- the thing of a target before others
abbrev pub with_target : Option Handle → List Thing → List Thing
with_target None things = things
with_target (Some h) things = record { place = place_of_handle h; serial = h.serial } ∷ things

-- the frame buffers that views draw to
abbrev pub targets_in : List View → List Thing
targets_in [] = []
targets_in (view ∷ views) = with_target view.target (targets_in views)

-- ---- one state for both tables

-- the hold table, the table of the frames and a core stand for one state of the schedule: the API's seat knows what the core's seat knows, the frame was
-- given where the core's was, and as many encoders are begun and frames out. Each table has its rule
pub record StandsForOne {first : ℕ} {s : Table} (h : IsHeld first s) (x : Stages) (ring : rings.Table) (v : CoreState) (m : State) : Type 0 where
  pub seat : h.me ≡ v.seat
  pub hold : StandsFor h x m
  pub handed : rings.StandsFor ring m
  pub rule : swap_rule.IsHeld v.book.resources.latency ring
  pub given : m.is_given ≡ v.is_given
  pub begun : m.begun ≡ v.begun
  pub out : length (out m) ≡ v.out

-- the event is allowed in the state, and both tables and the core after it stand for the state after it
pub record IsEvent {first : ℕ} {s : Table} (h : IsHeld first s) (x : Stages) (ring : rings.Table) (v : CoreState) (m : State) (e : Event) : Type 0 where
  pub after : State
  pub allowed : step v.book.resources.latency m e ≡ Some after
  pub stands : StandsForOne h x ring v after

-- what a core keeps, and that its things are lawful: both are told of every core
pub record IsKept (v : CoreState) : Type 0 where
  pub views : ℕ
  pub core : IsCore anything views ⊤ v
  pub lawful : IsLawful v.book.resources

-- a law of each call of a core between two hold tables, where the first table, a table of the frames and the core before the call stand for one state
abbrev pub OfCores : ((first : ℕ) (s t : Table) → IsHeld first s → IsHeld first t → Stages → rings.Table → CoreState → State → Type 0) → Type 0
OfCores L = (first : ℕ) (s t : Table) (h : IsHeld first s) (k : IsHeld first t) (x : Stages) (ring : rings.Table) (v : CoreState) (m : State)
    → StandsForOne h x ring v m → IsKept v → L first s t h k x ring v m

-- ---- each call

module _ (first : ℕ) (s t : Table) (h : IsHeld first s) (k : IsHeld first t) (x : Stages) (ring : rings.Table) (v : CoreState) (m : State) where
  -- a seat that is lent is Begin
  abbrev pub LendIs : Type 0
  LendIs = (table : TableId) (room : Room) (l : Lent) (new : CoreView) → Lends room l (core_of table v) new → v.is_given ≡ false
      → Cuts (split_kind v.begun).left (split_kind v.begun).right 0 v.seat s t → k.me ≡ new.state.seat → IsEvent k (begun_as (length s.views) x) ring new.state m begin

  -- a seat that is taken again, by a join and what follows it, is Cancel
  abbrev pub GiveUpIs : Type 0
  GiveUpIs = (i other : ℕ) (w : SeatView) (before : CoreState) (mid : Table) (at : Step (Unit {0})) (r : ℕ) → IsHeld first mid → IsLentLast w before v → slice_get x.recording i ≡ Some other
      → TakesIn gather_kind.both gather_kind.spent 0 v.seat other w s mid → Plays learn_kind.then 0 (gathered v.seat w) at r mid t → k.me ≡ before.seat
      → IsEvent k (cancelled i x) ring before m (cancel i)

  -- a bundle that is gathered, by a join and what follows it, is Gather
  abbrev pub GatherIs : Type 0
  GatherIs = (table : TableId) (i other : ℕ) (w : SeatView) (r : Recording) (new : CoreView) (mid : Table) (at : Step (Unit {0})) (n : ℕ) → IsHeld first mid → Gathers r w (core_of table v) new
      → slice_get x.collected i ≡ Some other → TakesIn gather_kind.both gather_kind.spent 0 v.seat other w s mid → Plays learn_kind.then 0 (gathered v.seat w) at n mid t → k.me ≡ new.state.seat
      → IsEvent k (gathered_of i x) ring new.state m (gather i)

  -- a thing that is made is Create
  abbrev pub MakeIs : Type 0
  MakeIs = (table : TableId) (call : ResourceCall) (handle : Handle) (new : CoreView) (c : Change) (cs : List Change) (at : Step (Unit {0})) (r : ℕ) → Makes own call handle (core_of table v) new
      → (effect v.book.resources call).changes ≡ c ∷ cs → v.is_given ≡ false → at.word ≡ suc (place_of_handle handle) → r ≡ word_of (live handle.serial)
      → Plays create_kind.then 0 v.seat at r s t → k.me ≡ new.state.seat → IsEvent k x ring new.state m (create (place_of_handle handle) handle.serial)

  -- a thing that dies is Destroy
  abbrev pub DieIs : Type 0
  DieIs = (table : TableId) (handle : Handle) (new : CoreView) (at : Step (Unit {0})) (r : ℕ) → Destroys own (Ok tt) handle (core_of table v) new
      → nat_lt 1 (references_of (find (is_at handle.kind handle.index) v.book.resources.things)) ≡ false → v.is_given ≡ false
      → at.word ≡ suc (place_of_handle handle) → r ≡ word_of (dying handle.serial v.seat.frame)
      → Plays destroy_kind.then 0 v.seat at r s t → k.me ≡ new.state.seat → IsEvent k x ring new.state m (destroy (place_of_handle handle))

  -- the start of the next frame begins with Advance, behind which no place is free yet
  abbrev pub AdvanceIs : Type 0
  AdvanceIs = (at : Step (Unit {0})) (r : ℕ) → v.is_given ≡ true → Plays advance_kind.then 0 v.seat at r s t → k.me ≡ advanced r v.seat
      → (n : State) × (step v.book.resources.latency m advance ≡ Some n) × StandsFor k x n × rings.StandsFor ring n × (n.is_given ≡ false) × (n.begun ≡ 0) × (length (out n) ≡ v.out)

  -- a frame that is made and handed over is Give, with the frame buffers of its views as the names beside those that were gathered
  abbrev pub GiveIs : Type 0
  GiveIs = (table : TableId) (work : Work) (frame : Frame) (new : CoreView) (u : rings.Table) (id : ℕ) (end : SwapView) (at : Step Slot) (r : ℕ) (others : Slots) → MakesFrame work frame (core_of table v) new
      → v.is_given ≡ false → v.seat.off ≡ [] → swap_rule.IsHeld v.book.resources.latency u → end.side ≡ api
      → rings.Plays give_kind.then id end ((at.word, Some (Given frame)) ∷ others) at r ring u → IsEvent h x u new.state m (give (targets_in v.book.resources.views.settings))

  -- a frame that comes back is Back, and what the render end does is an event of which the core knows nothing
  abbrev pub BackIs : Type 0
  BackIs = (u : rings.Table) → swap_rule.IsHeld v.book.resources.latency u → 0 < v.out → rings.IsEvent v.book.resources.latency u m take_back → IsEvent h x u (record v { out = v.out - 1 }) m take_back

  abbrev pub HandIs : Type 0
  HandIs = (u : rings.Table) → swap_rule.IsHeld v.book.resources.latency u
      → (rings.IsEvent v.book.resources.latency u m take_frame → IsEvent h x u v m take_frame)
      × ((o : Outcome) → rings.IsEvent v.book.resources.latency u m (return_frame o) → IsEvent h x u v m (return_frame o))

-- what follows Advance where the next frame starts: a place that is freed is Reclaim. Its thing is one that the definition gives back, and died so long ago
-- that no frame that may be out names it. The API's seat knows the next frame, and the place as it was
abbrev pub ReclaimIs : Type 0
ReclaimIs = (first : ℕ) (s t : Table) (h : IsHeld first s) (k : IsHeld first t) (x : Stages) (m : State) (v : CoreState) → StandsFor h x m → IsKept v
    → (kind : Kind) (index : ℕ) (thing : Held) (at : Step (Unit {0})) (r : ℕ) → index < greatest kind → find (is_at kind index) v.book.resources.things ≡ Some thing
    → is_kept_thing v.book.resources.latency (v.book.resources.frame + 1) thing ≡ false → h.me.frame ≡ v.seat.frame + 1
    → place_at h.me.places (first_place kind + index) ≡ place_at v.seat.places (first_place kind + index)
    → at.word ≡ suc (first_place kind + index) → Plays reclaim_kind.then 0 h.me at r s t
    → (n : State) × (step v.book.resources.latency m (reclaim (first_place kind + index)) ≡ Some n) × StandsFor k x n

-- a new core, with a new hold table and a new table of the frames, stands for the opening state
abbrev pub NewIs : Type 0
NewIs = (start : Start) (s : Table) (h : IsHeld start.frame s) (ring : rings.Table) → s.views ≡ hold_rule.first start.frame ∷ [] → swap_rule.IsHeld start.latency ring
    → ring.views ≡ ring_rule.first start.latency ∷ [] → StandsForOne h no_seats ring (opened_core start) (opening start.frame)
