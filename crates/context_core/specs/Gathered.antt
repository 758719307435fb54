-- What is known of the recordings that were collected.
use Rattle.std.specs.Prelude.{ℕ, ◌≡◌, ◌<◌, ◌≤◌, ◌+◌, nat_lt, if◌then◌else◌, Bool, true, false, List, [], map, length, sum_by, ⊤}
use Rattle.std.specs.List.{AllByRecursion}
use Rattle.gfx_model.specs.World.{Item}
use Rattle.schedule_model.specs.Machine.{Place}
use Rattle.schedule_model.specs.Held.{count_of, Ascends}
use Rattle.hold_table.specs.Views.{SeatView}
use Rattle.draw_encoder.specs.declared.items.Recording.{Recording}
use Rattle.draw_encoder.specs.Seen.{numbers_of, uniforms_seen, HasRangesWithin}
use Rattle.draw_encoder.specs.Names.{FitsItem, FitsUniform}
use Rattle.draw_encoder.specs.Bundles.{items_of}
use Rattle.frame_record.specs.Kept.{numbers_in}
use Rattle.context_core.specs.Places.{IsUsable}

-- the encoders of recordings
abbrev pub encoders_in : List Recording → List ℕ
encoders_in rs = map (λ r. r.encoder) rs

-- the sum of the numbers that the encoders ended with
abbrev pub dropped_in : List Recording → ℕ
dropped_in rs = sum_by (λ r. r.dropped) rs

-- 1 for the encoders of a frame that has begun so many, and 0 for any other
abbrev pub once_below : ℕ → ℕ → ℕ
once_below begun e = if nat_lt e begun then 1 else 0

-- nothing is claimed of what an encoder ends with
abbrev pub anything : ℕ → ℕ → List Item → ℕ → Type 0
anything encoder frame items dropped = ⊤

-- every list of items and every number is admitted
abbrev pub AdmitsAll : (admits : ℕ → ℕ → List Item → ℕ → Type 0) → Type 0
AdmitsAll admits = (encoder frame dropped : ℕ) (items : List Item) → admits encoder frame items dropped

-- a recording of a frame: it is admitted, its numbers ascend, its ranges lie within, and each handle of it is of a thing that can be named in the frame
pub record IsCollected (admits : ℕ → ℕ → List Item → ℕ → Type 0) (views frame : ℕ) (places : List Place) (r : Recording) : Type 0 where
  pub admitted : admits r.encoder frame (items_of r) r.dropped
  pub frame_is : r.frame ≡ frame
  pub few : length r.items ≤ 8191
  pub ascends : Ascends (numbers_of r.items)
  pub within : AllByRecursion (HasRangesWithin (length r.bytes) (length r.uniforms)) r.items
  pub items : AllByRecursion (FitsItem (IsUsable frame places) views) (items_of r)
  pub uniforms : AllByRecursion (FitsUniform (IsUsable frame places)) (uniforms_seen r.uniforms)

-- each recording was collected so
abbrev pub AreCollected : (admits : ℕ → ℕ → List Item → ℕ → Type 0) (views frame : ℕ) (places : List Place) → List Recording → Type 0
AreCollected admits views frame places rs = AllByRecursion (IsCollected admits views frame places) rs

-- each encoder that was begun in the frame is either off or has one recording here, whose numbers the seat gathered
pub record AreGathered (admits : ℕ → ℕ → List Item → ℕ → Type 0) (views : ℕ) (seat : SeatView) (begun : ℕ) (rs : List Recording) : Type 0 where
  pub count : length seat.off + length rs ≡ begun
  pub once : (e : ℕ) → count_of e seat.off + count_of e (encoders_in rs) ≡ once_below begun e
  pub joined : seat.joined ≤ length rs
  pub numbers : seat.numbers ≡ numbers_in rs
  pub apart : (n : ℕ) → count_of n seat.numbers ≤ 1
  pub most : length seat.numbers ≤ 65528
  pub collected : AreCollected admits views seat.frame seat.places rs

-- the frame was given: no encoder is off, what was gathered is the frame's, and a frame can follow
pub record IsGivenAway (seat : SeatView) (rs : List Recording) : Type 0 where
  pub none_off : seat.off ≡ []
  pub none_left : rs ≡ []
  pub not_last : seat.frame < 1073741823

-- what was gathered, before the frame is given and after
abbrev pub HasGathered : Bool → (admits : ℕ → ℕ → List Item → ℕ → Type 0) (views : ℕ) (seat : SeatView) (begun : ℕ) → List Recording → Type 0
HasGathered false admits views seat begun rs = AreGathered admits views seat begun rs
HasGathered true admits views seat begun rs = IsGivenAway seat rs

-- what the seat gathered and who is off, as another view has it; all else as it was
abbrev pub with_gathered : (new old : SeatView) → SeatView
with_gathered new old = record old { numbers = new.numbers; off = new.off; joined = new.joined; shows = new.shows }

-- the recordings of a frame: one of each encoder that was begun, and no other
pub record AreOfFrame (admits : ℕ → ℕ → List Item → ℕ → Type 0) (views frame : ℕ) (places : List Place) (begun : ℕ) (rs : List Recording) : Type 0 where
  pub once : (e : ℕ) → count_of e (encoders_in rs) ≡ once_below begun e
  pub collected : AreCollected admits views frame places rs
