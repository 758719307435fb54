-- What a call would be answered by the words at the beginning of its seat.
use Rattle.std.specs.Prelude.{◌≡◌, ℕ, ◌≤◌, List, map, length, Result, Ok, Err}
use Rattle.std.specs.List.{AllByRecursion}
use Rattle.gfx_model.specs.Words.{Handle, place_of_handle}
use Rattle.gfx_model.specs.Resources.{Refusal, stale}
use Rattle.gfx_model.specs.Recorder.{Recorder, EncoderCall, refusals, asked, answer}
use Rattle.schedule_model.specs.Machine.{place_at}
use Rattle.hold_table.specs.Words.{word_of, IsUpTo}
use Rattle.hold_table.specs.Views.{SeatView}
use Rattle.draw_encoder.specs.Calls.{AreWordsSince, word_tests}

-- the words of the handles' places when the seat began
abbrev pub words_begun : SeatView → List Handle → List ℕ
words_begun v hs = map (λ h. word_of (place_at v.places (place_of_handle h))) hs

-- the refusal without the word that a stale handle is told of
abbrev pub without_word : Refusal → Refusal
without_word (stale w) = stale 0
without_word r = r

-- both are the same state, or both are the same refusal but for the word of a stale handle
abbrev pub IsSameAnswer : Result Recorder Refusal → Result Recorder Refusal → Type 0
IsSameAnswer (Ok a) (Ok b) = a ≡ b
IsSameAnswer (Err q) (Err r) = without_word q ≡ without_word r
IsSameAnswer _ _ = ⊥

-- the handle's serial was given before the seat began, and the place's serial then fits into a word
abbrev pub IsGivenBefore : SeatView → Handle → Type 0
IsGivenBefore v h = (h.serial ≤ v.greatest) × IsUpTo 4294967295 (place_at v.places (place_of_handle h))

-- by the words that a call loaded, the answer is the one by the words at the seat's beginning,
-- where the serial of each handle that it asks for was given before
abbrev pub AnswersAsBegun : Type 0
AnswersAsBegun = (v : SeatView) (e : Recorder) (call : EncoderCall) (words : List ℕ) → e.frame ≡ v.frame
    → length words ≡ word_tests (refusals e words call) → AreWordsSince v (asked call) words → AllByRecursion (IsGivenBefore v) (asked call)
    → IsSameAnswer (answer e words call) (answer e (words_begun v (asked call)) call)
