-- What a seat knows, and what each kind of step changes and tells.
use Rattle.std.specs.Prelude.{◌≡◌, ◌≢◌, ◌≤◌, ℕ, zero, suc, ◌%◌, Bool, true, false, List, [], ◌∷◌, ◌++◌, length, drop, Option, Some, None}
use Rattle.atomic_table.specs.Table.{Me, Step}
use Rattle.frame_record.specs.declared.frame.Frame.{Frame}
use Rattle.frame_record.specs.declared.frame.RenderedFrame.{RenderedFrame}
use Rattle.frame_record.specs.Links.{frames_of}
use Rattle.frame_swap.specs.declared.content.Content.{Content}
use Rattle.frame_swap.specs.declared.content.Content.TheVariants.{Given, Back}

-- ---- what a seat knows

-- which end it is: the API's, the render thread's, or one that was joined
pub data Side : Type 0 where
  api : Side
  render : Side
  spent : Side

-- The API end knows how many slots it claimed, whether it stopped and how many frames it had given when it did so last, and what it gave and what came back; where it is the whole, as before the render end
-- is made and after it is joined, also what the render end knows: what that took and returned, and how many stops it saw. Each end counts its tries that
-- found nothing
pub record SwapView : Type 0 where
  pub side : Side
  pub is_whole : Bool
  pub is_stopped : Bool
  pub claimed : ℕ
  pub given : List Frame
  pub back : List RenderedFrame
  pub taken : List Frame
  pub returned : List RenderedFrame
  pub stops : ℕ
  pub stopped_after : ℕ
  pub misses : ℕ

-- what the whole table's one seat knows at first
abbrev pub first_view : SwapView
first_view = record { side = api; is_whole = true; is_stopped = false; claimed = 0; given = []; back = []; taken = []; returned = []; stops = 0; stopped_after = 0; misses = 0 }

-- what a seat knows that was joined
abbrev pub spent_view : SwapView
spent_view = record { side = spent; is_whole = false; is_stopped = false; claimed = 0; given = []; back = []; taken = []; returned = []; stops = 0; stopped_after = 0; misses = 0 }

-- ---- what a seat holds

-- what lies in a slot
abbrev pub Slot : Type 0
Slot = Option Content

-- the slots that a seat has taken out, each with its place
abbrev pub Slots : Type 0
Slots = List (ℕ × Slot)

-- what a seat knows and has
abbrev pub Mine : Type 0
Mine = Me Slot SwapView

-- the slots of the positions from p on, k of them, each empty
abbrev pub empty_slots : ℕ → ℕ → ℕ → Slots
empty_slots latency p zero = []
empty_slots latency p (suc k) = (p % latency, None) ∷ empty_slots latency (suc p) k

-- ---- steps

-- the API end has one slot more, which holds nothing
abbrev pub claimed_one : SwapView → SwapView
claimed_one v = record v { claimed = suc v.claimed }

-- the slot is the seat's, empty
abbrev pub Claims : Step Slot → Mine → ℕ → Mine → Type 0
Claims st m n m' = m' ≡ (claimed_one m.0, (st.word, None) ∷ m.1)

-- one frame more is given
abbrev pub gave : Frame → SwapView → SwapView
gave f v = record v { given = v.given ++ f ∷ [] }

-- the slot taken last had a frame, and is given
abbrev pub Gives : Step Slot → Mine → ℕ → Mine → Type 0
Gives st m n m' = (f : Frame) (k : Slots) → m.1 ≡ (st.word, Some (Given f)) ∷ k → m' ≡ (gave f m.0, k)

-- one frame more is taken
abbrev pub took : Frame → SwapView → SwapView
took f v = record v { taken = v.taken ++ f ∷ [] }

-- a stop was seen
abbrev pub saw : SwapView → SwapView
saw v = record v { stops = suc v.stops }

-- one try more that found nothing
abbrev pub missed : SwapView → SwapView
missed v = record v { misses = suc v.misses }

-- the view but for the tries that found nothing
abbrev pub with_misses : ℕ → SwapView → SwapView
with_misses n v = record v { misses = n }

-- a frame was there and was taken, or the stop was seen, or there was nothing to take, which is the render end's miss alone
abbrev pub Takes : Step Slot → Mine → ℕ → Mine → Type 0
Takes st m n m' =
    (n ≡ 1 → (f : Frame) × (m' ≡ (took f m.0, (st.word, Some (Given f)) ∷ m.1)))
    × (n ≡ 4 → m' ≡ (saw m.0, m.1))
    × (n ≢ 1 → n ≢ 4 → (m.0.side ≡ render) × (m' ≡ (missed m.0, m.1)))

-- one frame more is returned
abbrev pub gave_back : RenderedFrame → SwapView → SwapView
gave_back r v = record v { returned = v.returned ++ r ∷ [] }

-- the slot taken last had a rendered frame, and is returned
abbrev pub Returns : Step Slot → Mine → ℕ → Mine → Type 0
Returns st m n m' = (r : RenderedFrame) (k : Slots) → m.1 ≡ (st.word, Some (Back r)) ∷ k → m' ≡ (gave_back r m.0, k)

-- one frame more came back
abbrev pub came : RenderedFrame → SwapView → SwapView
came r v = record v { back = v.back ++ r ∷ [] }

-- a frame came back, the oldest that was out, and what came back is a prefix of what was given; or its render has not ended, as that frame's own word says
abbrev pub TakesBack : Step Slot → Mine → ℕ → Mine → Type 0
TakesBack st m n m' =
    (n ≡ 3 → (r : RenderedFrame) × (m' ≡ (came r m.0, (st.word, Some (Back r)) ∷ m.1)) × (m.0.given ≡ frames_of m.0.back ++ r.frame ∷ drop (suc (length m.0.back)) m.0.given))
    × (n ≢ 3 → (st.word ≡ length m.0.back % m.0.claimed) × (m' ≡ (missed m.0, m.1)))

-- no frame is given any more
abbrev pub stopped : SwapView → SwapView
stopped v = record v { is_stopped = true; stopped_after = length v.given }

-- the seat has stopped
abbrev pub Stops : Step Slot → Mine → ℕ → Mine → Type 0
Stops st m n m' = m' ≡ (stopped m.0, m.1)

-- the API end's part of what the whole knew
abbrev pub parted : SwapView → SwapView
parted v = record v { is_whole = false }

-- the render end's part of it
abbrev pub render_view : SwapView → SwapView
render_view v = record { side = render; is_whole = false; is_stopped = false; claimed = 0; given = []; back = []; taken = v.taken; returned = v.returned; stops = v.stops; stopped_after = 0; misses = 0 }

-- what both ends knew together
abbrev pub united : SwapView → SwapView → SwapView
united v w = record v { is_whole = true; taken = w.taken; returned = w.returned; stops = w.stops }

-- with both ends and nothing out: what was taken is what was given, what was returned is what came back, and a stop was seen only where there was one
abbrev pub Learns : Step Slot → Mine → ℕ → Mine → Type 0
Learns st m n m' = (m' ≡ m) × (m.0.taken ≡ m.0.given) × (m.0.returned ≡ m.0.back) × (frames_of m.0.back ≡ m.0.given) × (1 ≤ m.0.stops → m.0.is_stopped ≡ true)

-- ---- steps of one seat that has the whole

-- the frame that was given last is taken
abbrev pub TakesHere : Step Slot → Mine → ℕ → Mine → Type 0
TakesHere st m n m' = (f : Frame) → m.0.given ≡ m.0.taken ++ f ∷ [] → m' ≡ (took f m.0, (st.word, Some (Given f)) ∷ m.1)

-- the oldest frame that is out comes back, with the outcome with which it was returned
abbrev pub ComesHere : Step Slot → Mine → ℕ → Mine → Type 0
ComesHere st m n m' = (r : RenderedFrame) × (m' ≡ (came r m.0, (st.word, Some (Back r)) ∷ m.1)) × (m.0.returned ≡ m.0.back ++ r ∷ drop (suc (length m.0.back)) m.0.returned) × (m.0.given ≡ frames_of m.0.back ++ r.frame ∷ drop (suc (length m.0.back)) m.0.given)

-- nothing lies in the slot
abbrev pub None_slot : Slot
None_slot = None

-- a frame or a rendered frame lies in the slot
abbrev pub some_slot : Content → Slot
some_slot x = Some x

-- the rendered frames that did not come back, the oldest first
abbrev pub later_of : List RenderedFrame → List RenderedFrame → List RenderedFrame
later_of returned back = drop (length back) returned
