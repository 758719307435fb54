-- How an encoder answers a call.
use Rattle.std.specs.Prelude.{◌≡◌, ℕ, ◌+◌, Bool, true, false, if◌then◌else◌, List, [], ◌∷◌, length, Result, Ok, MatchResult, ⊤}
use Rattle.atomic_table.specs.Seated.{TableId}
use Rattle.gfx_model.specs.Words.{Handle, place_of_handle}
use Rattle.gfx_model.specs.Resources.{Refusal as ModelRefusal, stale}
use Rattle.gfx_model.specs.Recorder.{Recorder, EncoderCall, submit, touch, blit, refusals, asked, answer, discarded, with_current}
use Rattle.gfx_words.specs.declared.refusals.Refusal.{Refusal}
use Rattle.gfx_words.specs.Seen.{IsRefused}
use Rattle.hold_table.specs.Views.{SeatView, asks, drawn, IsWordSince}

-- the state of an encoder, and what its seat knows
pub record EncoderView : Type 0 where
  pub recorder : Recorder
  pub seat : SeatView

-- the state of a recorder under an encoder, and the table of its seat
pub record RecorderView : Type 0 where
  pub table : TableId
  pub state : EncoderView

-- ---- the words that a call loads

-- what the seat knows after it asked for handles and found words
abbrev pub asks_all : List Handle → List ℕ → SeatView → SeatView
asks_all (h ∷ hs) (w ∷ ws) v = asks_all hs ws (asks (place_of_handle h) w v)
asks_all _ _ v = v

-- each word follows from the state of its handle's place at the seat's beginning
abbrev pub AreWordsSince : SeatView → List Handle → List ℕ → Type 0
AreWordsSince v hs [] = ⊤
AreWordsSince v [] (w ∷ ws) = ⊥
AreWordsSince v (h ∷ hs) (w ∷ ws) = IsWordSince v (place_of_handle h) w × AreWordsSince v hs ws

-- whether a refusal speaks of a word
abbrev pub is_stale : ModelRefusal → Bool
is_stale (stale word) = true
is_stale _ = false

-- how many of the tests up to the first that refuses are of words
abbrev pub word_tests : List (Bool × ModelRefusal) → ℕ
word_tests [] = 0
word_tests (t ∷ rest) = (if is_stale t.1 then 1 else 0) + (if t.0 then 0 else word_tests rest)

-- ---- the answer

-- an accepted call that adds an item draws one number, and no other call draws any
abbrev pub IsSeatAfter : EncoderCall → SeatView → SeatView → Type 0
IsSeatAfter (submit view program depth flags) v w = (n : ℕ) × (w ≡ drawn n v)
IsSeatAfter (touch view) v w = (n : ℕ) × (w ≡ drawn n v)
IsSeatAfter (blit b) v w = (n : ℕ) × (w ≡ drawn n v)
IsSeatAfter _ v w = w ≡ v

-- by the words that the call loaded, one for each test of a word that it reached, the answer is the definition's.
-- A refused call changes nothing, but the seat has asked what it asked
pub record Answers (old new : EncoderView) (call : EncoderCall) (result : Result (Unit {0}) Refusal) : Type 0 where
  pub words : List ℕ
  pub loaded : length words ≡ word_tests (refusals old.recorder words call)
  pub since : AreWordsSince old.seat (asked call) words
  pub outcome : MatchResult result
      (λ _. (answer old.recorder words call ≡ Ok new.recorder) × IsSeatAfter call (asks_all (asked call) words old.seat) new.seat)
      (λ r. IsRefused (answer old.recorder words call) r × (new.recorder ≡ old.recorder) × (new.seat ≡ asks_all (asked call) words old.seat))

-- the parts of the state for the next draw that flags name are as at the begin of an encoder; all else is as it was, and no word is asked
abbrev pub Discards : (old new : EncoderView) → (flags : ℕ) → Type 0
Discards old new flags = new ≡ record old { recorder = with_current (discarded flags old.recorder.current) old.recorder }
