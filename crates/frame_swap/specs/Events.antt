-- Which event of the schedule each kind of step is.
use Rattle.std.specs.Prelude.{◌≡◌, ◌≢◌, ℕ, true, false, List, [], ◌∷◌, ◌++◌, map, length, take, slice_set, slice_index, ◌≤◌, ◌<◌, ◌⊎◌, Some}
use Rattle.std.specs.List.{list_all}
use mathlib.Core.Option.{some}
use lib.ListN.{get_elem?}
use Rattle.atomic_table.specs.Table.{State as TableState, Step, Act, Allows, Splits, Joins, stepped, carried_after}
use Rattle.schedule_model.specs.Machine as machine
use Rattle.schedule_model.specs.Machine.{State, Event, Thing, give, take_frame, return_frame, take_back, step, out, has_no_work, is_usable, opening}
use Rattle.schedule_model.specs.Held.{IsPrefix}
use Rattle.frame_record.specs.declared.frame.Frame.{Frame}
use Rattle.frame_record.specs.declared.frame.Outcome.{Outcome}
use Rattle.frame_record.specs.declared.frame.Outcome.TheVariants as outcomes
use Rattle.frame_record.specs.declared.frame.RenderedFrame.{RenderedFrame}
use Rattle.frame_swap.specs.declared.content.Content.TheVariants.{Given, Back}
use Rattle.frame_swap.specs.Views.{api, render, SwapView, Slot, Slots, Mine}
use Rattle.frame_swap.specs.Rule.{IsHeld}
use Rattle.frame_swap.specs.contracts.view.LawTableRuleOptionContentViewU8.TheImpl.{ghosts as table_rule}
use Rattle.frame_swap.specs.contracts.view.ClaimPlayOptionContentView.TheImpl.{ghosts as claim_kind}
use Rattle.frame_swap.specs.contracts.view.GivePlayOptionContentView.TheImpl.{ghosts as give_kind}
use Rattle.frame_swap.specs.contracts.view.TakePlayOptionContentView.TheImpl.{ghosts as take_kind}
use Rattle.frame_swap.specs.contracts.view.ReturnPlayOptionContentView.TheImpl.{ghosts as return_kind}
use Rattle.frame_swap.specs.contracts.view.TakeBackPlayOptionContentView.TheImpl.{ghosts as back_kind}
use Rattle.frame_swap.specs.contracts.view.StopPlayOptionContentView.TheImpl.{ghosts as stop_kind}
use Rattle.frame_swap.specs.contracts.view.LearnPlayOptionContentView.TheImpl.{ghosts as learn_kind}
use Rattle.frame_swap.specs.contracts.view.TakeHerePlayOptionContentView.TheImpl.{ghosts as take_here_kind}
use Rattle.frame_swap.specs.contracts.view.BackHerePlayOptionContentView.TheImpl.{ghosts as back_here_kind}
use Rattle.frame_swap.specs.contracts.view.PartSplitView.TheImpl.{ghosts as part_kind}
use Rattle.frame_swap.specs.contracts.view.PartJoinView.TheImpl.{ghosts as unite_kind}

-- ---- what a table stands for

-- the table: its words, its slots and the views of its ends
abbrev pub Table : Type 0
Table = TableState Slot SwapView

-- an outcome as the schedule has it
abbrev pub outcome_seen : Outcome → machine.Outcome
outcome_seen outcomes.Shown = machine.shown
outcome_seen outcomes.PictureFault = machine.picture_fault
outcome_seen outcomes.OutOfMemory = machine.out_of_memory
outcome_seen outcomes.Skipped = machine.skipped

-- where it stands what the render end took and returned: in the API end's view, where that is the whole, or in the render end's
pub data IsOther (views : List SwapView) (me other : SwapView) : Type 0 where
  is_same : me.is_whole ≡ true → other ≡ me → IsOther views me other
  is_render : (j : ℕ) → get_elem? views j ≡ some other → other.side ≡ render → IsOther views me other

-- the views of the two ends
pub record Ends (views : List SwapView) (me other : SwapView) : Type 0 where
  pub first : get_elem? views 0 ≡ some me
  pub is_api : me.side ≡ api
  pub second : IsOther views me other

-- what the ends know stands for the lists of the schedule: its given frames have the numbers of those that were given, as many of them are
-- taken, returned and back, and they were returned with the same outcomes. Of the names of frames nothing is said
pub record Stands (me other : SwapView) (m : State) : Type 0 where
  pub given : map (λ f. f.number) m.given ≡ map (λ f. f.number) me.given
  pub taken : m.taken ≡ take (length other.taken) m.given
  pub returned : map (λ x. x.0) m.returned ≡ take (length other.returned) m.given
  pub outcomes : map (λ x. x.1) m.returned ≡ map (λ r. outcome_seen r.outcome) other.returned
  pub back : m.back ≡ take (length me.back) m.returned

-- a table stands for a state of the schedule
abbrev pub StandsFor : Table → State → Type 0
StandsFor s m = (me : SwapView) × (other : SwapView) × Ends s.views me other × Stands me other m

-- the event is allowed in the state, and the table stands for the state after it
abbrev pub IsEvent : ℕ → Table → State → Event → Type 0
IsEvent latency t m e = (n : State) × (step latency m e ≡ Some n) × StandsFor t n

-- ---- the steps, as the table's base makes them

-- the seat id, whose view is v, makes a step of a kind, which tells of the number r
pub record Plays (then : Step Slot → Mine → ℕ → Mine → Type 0) (id : ℕ) (v : SwapView) (hand : Slots) (at : Step Slot) (r : ℕ) (s t : Table) : Type 0 where
  pub was : get_elem? s.views id ≡ some v
  pub written : ℕ
  pub act : Act Slot
  pub w : SwapView
  pub after : t ≡ stepped s at.word written id hand w act
  pub told : then at (v, hand) r (w, carried_after hand act)

-- the seat id, whose view is v, is cut in two, and the second is the seat behind all others
pub record Cuts (left right : SwapView → SwapView) (id : ℕ) (v : SwapView) (s t : Table) : Type 0 where
  pub was : get_elem? s.views id ≡ some v
  pub after : t ≡ record { words = s.words; homes = s.homes; views = slice_set s.views id (left v) ++ right v ∷ [] }

-- the seat id, whose view is v, takes in the seat other, whose view is w
pub record TakesIn (both : SwapView → SwapView → SwapView) (spent : SwapView) (id : ℕ) (v : SwapView) (other : ℕ) (w : SwapView) (s t : Table) : Type 0 where
  pub was : get_elem? s.views id ≡ some v
  pub apart : ¬ (other ≡ id)
  pub there : get_elem? s.views other ≡ some w
  pub after : t ≡ record { words = s.words; homes = s.homes; views = slice_set (slice_set s.views id (both v w)) other spent }

-- ---- each kind of step, between two tables of which the rule holds

module _ (latency : ℕ) (s t : Table) (m : State) where
  -- a frame of the schedule's number is given: Give, where the schedule allows it but for the room, which the rule says
  abbrev pub GiveIs : Type 0
  GiveIs = (id : ℕ) (v : SwapView) (at : Step Slot) (r : ℕ) (f : Frame) (others : Slots) (targets : List Thing) → v.side ≡ api → f.number ≡ m.frame
      → has_no_work m ≡ true → m.is_given ≡ false → list_all (is_usable m m.frame) targets ≡ true
      → Plays give_kind.then id v ((at.word, Some (Given f)) ∷ others) at r s t → IsEvent latency t m (give targets)

  -- the render end takes a frame where it found one: Take; where it found none, or the stop, no event
  abbrev pub TakeIs : Type 0
  TakeIs = (id : ℕ) (v : SwapView) (hand : Slots) (at : Step Slot) (r : ℕ) → v.side ≡ render → Plays take_kind.then id v hand at r s t
      → (r ≡ 1 → IsEvent latency t m take_frame) × (r ≢ 1 → StandsFor t m)

  -- the render end, or the API end where it has the whole, gives a frame back: Return, with the frame's outcome
  abbrev pub ReturnIs : Type 0
  ReturnIs = (id : ℕ) (v : SwapView) (at : Step Slot) (r : ℕ) (b : RenderedFrame) (others : Slots) → (v.side ≡ render) ⊎ ((v.side ≡ api) × (v.is_whole ≡ true))
      → Plays return_kind.then id v ((at.word, Some (Back b)) ∷ others) at r s t → IsEvent latency t m (return_frame (outcome_seen b.outcome))

  -- the API end takes a frame back where it found one: Back; else no event
  abbrev pub BackIs : Type 0
  BackIs = (id : ℕ) (v : SwapView) (hand : Slots) (at : Step Slot) (r : ℕ) → v.side ≡ api → Plays back_kind.then id v hand at r s t
      → (r ≡ 3 → IsEvent latency t m take_back) × (r ≢ 3 → StandsFor t m)

  -- the API end, which has the whole, takes the frame that was given last: Take
  abbrev pub TakeHereIs : Type 0
  TakeHereIs = (id : ℕ) (v : SwapView) (hand : Slots) (at : Step Slot) (r : ℕ) (f : Frame) → v.side ≡ api → v.is_whole ≡ true → v.given ≡ v.taken ++ f ∷ []
      → Plays take_here_kind.then id v hand at r s t → IsEvent latency t m take_frame

  -- the API end, which has the whole, takes a frame back: Back
  abbrev pub BackHereIs : Type 0
  BackHereIs = (id : ℕ) (v : SwapView) (hand : Slots) (at : Step Slot) (r : ℕ) → v.side ≡ api → Plays back_here_kind.then id v hand at r s t → IsEvent latency t m take_back

  -- that the render end is made and joined is no event, nor is what follows the join
  abbrev pub SplitIs : Type 0
  SplitIs = (id : ℕ) (v : SwapView) → v.side ≡ api → v.is_whole ≡ true → Cuts part_kind.left part_kind.right id v s t → StandsFor t m

  abbrev pub JoinIs : Type 0
  JoinIs = (id other : ℕ) (v w : SwapView) → v.side ≡ api → w.side ≡ render → TakesIn unite_kind.both unite_kind.spent id v other w s t → StandsFor t m

  abbrev pub LearnIs : Type 0
  LearnIs = (id : ℕ) (v : SwapView) (hand : Slots) (at : Step Slot) (r : ℕ) → v.side ≡ api → Plays learn_kind.then id v hand at r s t → StandsFor t m

  -- claims and stops are no events
  abbrev pub ClaimIs : Type 0
  ClaimIs = (id : ℕ) (v : SwapView) (hand : Slots) (at : Step Slot) (r : ℕ) → v.side ≡ api → Plays claim_kind.then id v hand at r s t → StandsFor t m

  abbrev pub StopIs : Type 0
  StopIs = (id : ℕ) (v : SwapView) (hand : Slots) (at : Step Slot) (r : ℕ) → v.side ≡ api → Plays stop_kind.then id v hand at r s t → StandsFor t m

-- a law of each step between two tables of which the rule holds, where the first stands for a state
abbrev pub OfSteps : (ℕ → Table → Table → State → Type 0) → Type 0
OfSteps L = (latency : ℕ) (s t : Table) (m : State) → IsHeld latency s → IsHeld latency t → StandsFor s m → L latency s t m

-- a new table stands for the opening state
abbrev pub NewIsOpening : Type 0
NewIsOpening = (latency first : ℕ) (s : Table) → s.views ≡ table_rule.first latency ∷ [] → StandsFor s (opening first)

-- each table of which the rule holds stands for some state
abbrev pub EachStands : Type 0
EachStands = (latency : ℕ) (s : Table) → IsHeld latency s → (m : State) × StandsFor s m

-- ---- what the rule says of the schedule

-- the parts of the hand-over that the table's rule keeps: what is back is a prefix of what was returned, that of what was taken, that of what was
-- given, and at most latency frames are out
pub record PartsHold (latency : ℕ) (m : State) : Type 0 where
  pub back : IsPrefix m.back m.returned
  pub returned : IsPrefix (map (λ x. x.0) m.returned) m.taken
  pub taken : IsPrefix m.taken m.given
  pub few : length (out m) ≤ latency

-- what stands for a state under the rule keeps the parts of the schedule's invariant
abbrev pub RuleKeepsParts : Type 0
RuleKeepsParts = (latency : ℕ) (s : Table) (m : State) → IsHeld latency s → StandsFor s m → PartsHold latency m

-- ---- what a call's proof gives the base is such a step

-- where the base allows a step of a kind, which tells of the number found or of the number stored, the table can go on by it
abbrev pub IsPlayed : (Step Slot → Mine → ℕ → Mine → Type 0) → Type 0
IsPlayed then = (latency slots id : ℕ) (v : SwapView) (hand : Slots) (at : Step Slot) (f tells : ℕ → ℕ)
    → Allows (IsHeld latency) slots id (v, hand) at.word f (λ n. then at (v, hand) (tells n))
    → (s : Table) → IsHeld latency s → length s.homes ≡ slots → get_elem? s.views id ≡ some v → slice_index s.words at.word < 18446744073709551616
    → (t : Table) × IsHeld latency t × Plays then id v hand at (tells (slice_index s.words at.word)) s t

-- a split that the table's base admits leaves the rule, and is a cut
abbrev pub IsCut : (SwapView → SwapView) → (SwapView → SwapView) → Type 0
IsCut left right = (latency id : ℕ) (v : SwapView) → Splits (IsHeld latency) id v (left v) (right v)
    → (s : Table) → IsHeld latency s → get_elem? s.views id ≡ some v → (t : Table) × IsHeld latency t × Cuts left right id v s t

-- a join that the base admits leaves the rule, and takes the other seat in
abbrev pub IsTakenIn : (SwapView → SwapView → SwapView) → SwapView → Type 0
IsTakenIn both spent = (latency id : ℕ) (v : SwapView) (other : ℕ) (w : SwapView) → Joins (IsHeld latency) id v other w (both v w) spent
    → (s : Table) → IsHeld latency s → get_elem? s.views id ≡ some v → ¬ (other ≡ id) → get_elem? s.views other ≡ some w → (t : Table) × IsHeld latency t × TakesIn both spent id v other w s t

-- each kind of step is played so
abbrev pub AllArePlayed : Type 0
AllArePlayed = IsPlayed claim_kind.then × IsPlayed give_kind.then × IsPlayed take_kind.then × IsPlayed return_kind.then × IsPlayed back_kind.then
    × IsPlayed stop_kind.then × IsPlayed learn_kind.then × IsPlayed take_here_kind.then × IsPlayed back_here_kind.then
    × IsCut part_kind.left part_kind.right × IsTakenIn unite_kind.both unite_kind.spent
