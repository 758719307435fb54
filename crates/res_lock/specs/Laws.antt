-- Laws of legal histories.
use Rattle.std.specs.Prelude.{◌≡◌, ◌⊎◌, ℕ, false, List, [], ◌∷◌, ◌++◌}
use Rattle.gfx_model.specs.FrameCalls.{CallState}
use Rattle.frame_record.specs.declared.frame.Outcome.{Outcome}
use Rattle.res_lock.specs.Histories.{Reply, ending, ended, LockEntry, HasReplies}

-- the frame of a number was not given
abbrev pub IsEndingOf : ℕ → Reply → Type 0
IsEndingOf number reply = (outcome : Outcome) × (reply ≡ ending number outcome)

-- an entry tells that the frame of a number was not given
abbrev pub HasEnding : ℕ → List LockEntry → Type 0
HasEnding number [] = ⊥
HasEnding number (e ∷ es) = IsEndingOf number e.reply ⊎ HasEnding number es

-- a call is answered by the end of the context exactly where an earlier entry tells that the frame of that number was not given
abbrev pub EndedLaw : Type 0
EndedLaw = (s : CallState) (before : List LockEntry) (e : LockEntry) (number : ℕ) → s.is_ended ≡ false → HasReplies s (before ++ e ∷ [])
    → (e.reply ≡ ended number → HasEnding number before) × (HasEnding number before → e.reply ≡ ended number)
