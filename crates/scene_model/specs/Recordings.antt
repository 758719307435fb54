-- Recordings of a scene's frame, and that their journal is lawful.
use Rattle.std.specs.Prelude.{◌≡◌, ℕ, ◌+◌, ◌<◌, List, [], ◌∷◌, map, length, filter_map, ⊤}
use Rattle.std.specs.List.{AllByRecursion}
use Rattle.gfx_model.specs.Frames.{Entry, Recorded, collected, items_by, item_of_entry, AreOfOwnEncoders, NumbersAscend}
use Rattle.scene_model.specs.Fold.{Accepted, FramePlan}
use Rattle.scene_model.specs.Journal.{IsLawfulFrame, item_of}

-- each encoder from number e on recorded its accepted items
abbrev pub HasRecorded : ℕ → List Accepted → List Recorded → Type 0
HasRecorded e [] rs = ⊤
HasRecorded e (a ∷ rest) rs = (map (λ i. i.item) (items_by rs e) ≡ a.items) × HasRecorded (e + 1) rest rs

-- recordings are those of a frame: one at most of each of its encoders, with its accepted items, whose numbers ascend
pub record AreRecordings (plan : FramePlan) (rs : List Recorded) : Type 0 where
  pub own : AreOfOwnEncoders rs
  pub ascend : AllByRecursion (λ r. NumbersAscend 0 r.items) rs
  pub below : AllByRecursion (λ r. r.encoder < length plan.encoders) rs
  pub items : HasRecorded 0 plan.encoders rs

-- the journal of a frame's recordings is lawful for the frame
abbrev pub RecordingsLaw : Type 0
RecordingsLaw = (plan : FramePlan) (rs : List Recorded) → AreRecordings plan rs → IsLawfulFrame plan (collected rs)

-- an entry names the same item by the frame as by its recordings
abbrev pub SameItemsLaw : Type 0
SameItemsLaw = (plan : FramePlan) (rs : List Recorded) (entries : List Entry) → AreRecordings plan rs → filter_map (item_of plan.encoders) entries ≡ filter_map (item_of_entry rs) entries
