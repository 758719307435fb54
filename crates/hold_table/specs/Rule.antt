-- The rule of the hold table: what holds between any two steps.
use Rattle.std.specs.Prelude.{◌≡◌, ℕ, ◌+◌, ◌-◌, ◌*◌, ◌≤◌, ◌==◌, if◌then◌else◌, List, [], ◌∷◌, length, map}
use mathlib.Core.Option.{some}
use lib.ListN.{get_elem?}
use Rattle.atomic_table.specs.Table.{State}
use Rattle.schedule_model.specs.Machine.{Place, place_at, place_count}
use Rattle.schedule_model.specs.Held.{Follows, count_of, Ascends}
use Rattle.hold_table.specs.Words.{word_of, IsUpTo}
use Rattle.hold_table.specs.Views.{Role, api, recorder, spent, SeatView, AllThere, AllShown, once_between}

-- f of each view, added up
abbrev pub total : (SeatView → ℕ) → List SeatView → ℕ
total f [] = 0
total f (v ∷ vs) = f v + total f vs

-- how often the view holds the number n
abbrev pub holds_number : ℕ → SeatView → ℕ
holds_number n v = count_of n v.numbers

-- how many numbers a seat drew
abbrev pub number_count : SeatView → ℕ
number_count v = length v.numbers

-- 1 for a recorder's seat
abbrev pub recording_as : Role → ℕ
recording_as api = 0
recording_as recorder = 1
recording_as spent = 0

-- 1 for a recorder
abbrev pub recording : SeatView → ℕ
recording v = recording_as v.role

-- 1 for a recorder with the encoder number e
abbrev pub carries : ℕ → SeatView → ℕ
carries e v = if v.encoder == e then recording v else 0

-- what holds of a recorder, where the API knows the frame, the places and the greatest serial
pub record IsRecorderOf (frame : ℕ) (places : List Place) (greatest : ℕ) (v : SeatView) : Type 0 where
  pub frame_is : v.frame ≡ frame
  pub few : length v.numbers ≤ 8191
  pub ascends : Ascends v.numbers
  pub older : v.greatest ≤ greatest
  pub follows : (p : ℕ) → Follows v.frame v.greatest (place_at v.places p) (place_at places p)
  pub there : AllThere frame places v.asked

-- what holds of the view of the seat i, by its role: only the seat 0 is the API's, and a seat that was joined has no numbers
abbrev pub FitsAs : ℕ → List Place → ℕ → ℕ → SeatView → Role → Type 0
FitsAs frame places greatest i v api = i ≡ 0
FitsAs frame places greatest i v recorder = IsRecorderOf frame places greatest v
FitsAs frame places greatest i v spent = v.numbers ≡ []

-- what holds of the API's view, the counter and all views, where the table began with the frame `first`
pub record Kept (first : ℕ) (me : SeatView) (counter : ℕ) (views : List SeatView) : Type 0 where
  pub at_api : get_elem? views 0 ≡ some me
  pub is_api : me.role ≡ api
  pub each : (i : ℕ) (v : SeatView) → get_elem? views i ≡ some v → FitsAs me.frame me.places me.greatest i v v.role
  -- each number from the base to below the counter stands in one view, once, and no other number in any
  pub once : (n : ℕ) → total (holds_number n) views ≡ once_between me.base counter n
  pub counted : me.base + total number_count views ≡ counter
  -- the recorders carry just the encoder numbers that are off, each once
  pub off : (e : ℕ) → total (carries e) views ≡ count_of e me.off
  pub off_once : (e : ℕ) → count_of e me.off ≤ 1
  pub off_below : (e : ℕ) → 8 ≤ e → count_of e me.off ≡ 0
  pub off_count : total recording views ≡ length me.off
  pub off_most : length me.off + me.joined ≤ 8
  -- how far the counter came
  pub gathered_most : length me.numbers ≤ 8191 * me.joined
  pub from_first : first ≤ me.frame
  pub frame_most : me.frame ≤ 1073741823
  pub base_most : me.base ≤ 65528 * (me.frame - first)
  -- the places' serials are at most the greatest, which a word has room for
  pub placed : (p : ℕ) → IsUpTo me.greatest (place_at me.places p)
  pub greatest_most : me.greatest ≤ 4294967295
  -- a seat that was joined last is of the frame
  pub shown : AllShown me.frame me.places me.shows

-- the words are the counter and the places' words
pub record IsHeld (first : ℕ) (s : State (Unit {0}) SeatView) : Type 0 where
  pub counter : ℕ
  pub me : SeatView
  pub words : s.words ≡ counter ∷ map word_of me.places
  pub many : length me.places ≡ place_count
  pub kept : Kept first me counter s.views
