-- The rule of the frame table: what holds between any two steps.
use Rattle.std.specs.Prelude.{◌≡◌, ℕ, ◌+◌, ◌%◌, ◌<◌, ◌≤◌, Bool, true, false, List, [], ◌++◌, map, length, Some, None}
use mathlib.Core.Option.{some, none}
use mathlib.Core.Option as maybe
use lib.ListN.{get_elem?}
use Rattle.atomic_table.specs.Table.{State}
use Rattle.frame_record.specs.declared.frame.Frame.{Frame}
use Rattle.frame_record.specs.declared.frame.RenderedFrame.{RenderedFrame}
use Rattle.frame_swap.specs.declared.content.Content.TheVariants.{Given, Back}
use Rattle.frame_record.specs.Links.{frames_of}
use Rattle.frame_swap.specs.Views.{Side, api, render, spent, SwapView, Slot}

-- ---- a word and its slot

-- where a slot is, with what it holds. `unclaimed`, `idle` and `stopped_at` are of words at which each frame given is back
pub data Phase : Type 0 where
  unclaimed : Phase
  idle : Phase
  given_at : Frame → Phase
  taken_at : Frame → Phase
  returned_at : RenderedFrame → Phase
  stopped_at : Phase

-- the word
abbrev pub code : Phase → ℕ
code unclaimed = 0
code idle = 0
code (given_at f) = 1
code (taken_at f) = 2
code (returned_at r) = 3
code stopped_at = 4

-- the slot: what is at home
abbrev pub home : Phase → maybe.Option Slot
home unclaimed = some None
home idle = none
home (given_at f) = some (Some (Given f))
home (taken_at f) = none
home (returned_at r) = some (Some (Back r))
home stopped_at = none

-- ---- the ring

-- what became of each frame that was given, in the order in which they were given
abbrev pub history : List RenderedFrame → List Frame → List Frame → List Phase
history returned in_hand waiting = map returned_at returned ++ (map taken_at in_hand ++ map given_at waiting)

-- a word at which no frame is out; the claimed ones are the first
abbrev pub IsFree : ℕ → Bool → ℕ → Phase → Type 0
IsFree claimed is_stopped i unclaimed = claimed ≤ i
IsFree claimed is_stopped i idle = i < claimed
IsFree claimed is_stopped i (given_at f) = ⊥
IsFree claimed is_stopped i (taken_at f) = ⊥
IsFree claimed is_stopped i (returned_at r) = ⊥
IsFree claimed is_stopped i stopped_at = (i < claimed) × (is_stopped ≡ true)

-- the word i has the phase of the frame that is out at it, where one is
abbrev pub Fits : ℕ → Bool → ℕ → maybe.Option Phase → Phase → Type 0
Fits claimed is_stopped i (some p) q = p ≡ q
Fits claimed is_stopped i none q = IsFree claimed is_stopped i q

-- The frame at the position p of the history is at the word p % latency. What is out, and the words at which a frame can be given, are the positions
-- from `back` on, as many as there are words
pub record Ring (latency back claimed : ℕ) (is_stopped : Bool) (past phases : List Phase) : Type 0 where
  pub some_word : 0 < latency
  pub long : length phases ≡ latency
  pub few : length past ≤ back + latency
  pub claimed_most : claimed ≤ latency
  pub fits : (p : ℕ) → back ≤ p → p < back + latency → (q : Phase) × (get_elem? phases (p % latency) ≡ some q) × Fits claimed is_stopped (p % latency) (get_elem? past p) q

-- ---- the rule

-- what the rule says of one view at the place i, by its side: the API end has the seat 0, the render end the seat j, where the API's end is not the whole
abbrev pub FitsAs : ℕ → Bool → List Frame → List RenderedFrame → ℕ → SwapView → Side → Type 0
FitsAs j is_whole taken returned i v api = i ≡ 0
FitsAs j is_whole taken returned i v render = (i ≡ j) × (is_whole ≡ false) × (v.taken ≡ taken) × (v.returned ≡ returned)
FitsAs j is_whole taken returned i v spent = Unit {0}

-- the render end has the seat
abbrev pub IsRenderAt : ℕ → List SwapView → Type 0
IsRenderAt seat views = (v : SwapView) × (get_elem? views seat ≡ some v) × (v.side ≡ render)

-- where no frame was given after the last stop, the word of the frame that would come next is stopped
pub record StopStands (latency : ℕ) (is_stopped : Bool) (stopped_after given : ℕ) (phases : List Phase) : Type 0 where
  pub early : stopped_after ≤ given
  pub stands : is_stopped ≡ true → stopped_after ≡ given → get_elem? phases (given % latency) ≡ some stopped_at

-- a stop was seen only where there was one
abbrev pub SeenIfStopped : Bool → List SwapView → Type 0
SeenIfStopped is_stopped views = (i : ℕ) (v : SwapView) → get_elem? views i ≡ some v → 1 ≤ v.stops → is_stopped ≡ true

-- what was returned, what the render end has in hand, what waits to be taken, what waits to come back, and the number of the render end's seat
pub record Kept (latency : ℕ) (me : SwapView) (returned : List RenderedFrame) (in_hand waiting : List Frame) (coming : List RenderedFrame) (seat : ℕ) (phases : List Phase) (views : List SwapView) : Type 0 where
  pub at_api : get_elem? views 0 ≡ some me
  pub is_api : me.side ≡ api
  pub each : (i : ℕ) (v : SwapView) → get_elem? views i ≡ some v → FitsAs seat me.is_whole (frames_of returned ++ in_hand) returned i v v.side
  pub alone : me.is_whole ≡ true → (me.taken ≡ frames_of returned ++ in_hand) × (me.returned ≡ returned)
  -- what came back is a prefix of what was returned, that of what was taken, and that of what was given
  pub back_is : returned ≡ me.back ++ coming
  pub given_is : me.given ≡ frames_of returned ++ (in_hand ++ waiting)
  pub one_hand : length in_hand ≤ 1
  pub early : me.claimed < latency → me.given ≡ []
  pub ring : Ring latency (length me.back) me.claimed me.is_stopped (history returned in_hand waiting) phases
  pub beside : me.is_whole ≡ false → IsRenderAt seat views
  pub stop : StopStands latency me.is_stopped me.stopped_after (length me.given) phases
  pub seen : SeenIfStopped me.is_stopped views

-- the same, of some lists
pub record IsRing (latency : ℕ) (phases : List Phase) (views : List SwapView) : Type 0 where
  pub me : SwapView
  pub returned : List RenderedFrame
  pub in_hand : List Frame
  pub waiting : List Frame
  pub coming : List RenderedFrame
  pub seat : ℕ
  pub kept : Kept latency me returned in_hand waiting coming seat phases views

-- the rule: words and slots stand for one list of phases round the ring, and what the ends know is the history of it
pub record IsHeld (latency : ℕ) (s : State Slot SwapView) : Type 0 where
  pub phases : List Phase
  pub words : s.words ≡ map code phases
  pub homes : s.homes ≡ map home phases
  pub ring : IsRing latency phases s.views
