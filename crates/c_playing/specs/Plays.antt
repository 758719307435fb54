-- How a scene's text is played for C.
use Rattle.std.specs.Prelude.{◌≡◌, ◌⊎◌, ℕ, ◌<◌, ◌≤◌, false, List, ◌++◌, drop, length}
use Rattle.scene_model.specs.Run.{Run, all_done, scene_refused, longest_input, IsPlayed}
use Rattle.c_playing.specs.declared.playing.PlayEnd.{PlayEnd}
use Rattle.c_playing.specs.declared.playing.PlayEnd.TheVariants.{Done, NoScene, TooLong, TooSmall, OutOfMemory}
use Rattle.c_playing.specs.declared.playing.Played.{Played}

-- a buffer begins with a text, and behind it is as before
abbrev pub BeginsWith : (text before after : List ℕ) → Type 0
BeginsWith text before after = (length text ≤ length before) × (after ≡ text ++ drop (length text) before)

-- two texts are handed out in two buffers; or one of these is too short, and both are as before. Their lengths are told
abbrev pub AreHandedOut : PlayEnd → (shown told : List ℕ) → (pictures pictures_after report report_after : List ℕ) → Type 0
AreHandedOut (Done m n) shown told p q r s = (m ≡ length shown) × (n ≡ length told) × BeginsWith shown p q × BeginsWith told r s
AreHandedOut (TooSmall m n) shown told p q r s = (m ≡ length shown) × (n ≡ length told) × ((length p < m) ⊎ (length r < n)) × (q ≡ p) × (s ≡ r)
AreHandedOut _ shown told p q r s = ⊥

-- the text is shown whole by a run of `play`, and the run's pictures and report are handed out, or too long for the buffers
abbrev pub IsShownOut : PlayEnd → (text pictures pictures_after report report_after : List ℕ) → Type 0
IsShownOut e text p q r s = (run : Run) × IsPlayed false text run × (run.ending ≡ all_done) × AreHandedOut e run.pictures run.noted p q r s

-- every run of `play` on the text has pictures and a report of these lengths
abbrev pub AreLengthsOfRuns : (text : List ℕ) → (pictures report : ℕ) → Type 0
AreLengthsOfRuns text m n = (run : Run) → IsPlayed false text run → (length run.pictures ≡ m) × (length run.noted ≡ n)

-- what stands after a play that ends so; the buffers are as before wherever it is not done. Memory is not wanting of a text that is too long
abbrev pub Plays : PlayEnd → (text pictures pictures_after report report_after : List ℕ) → Type 0
Plays (Done m n) text p q r s = IsShownOut (Done m n) text p q r s × AreLengthsOfRuns text m n
Plays (TooSmall m n) text p q r s = IsShownOut (TooSmall m n) text p q r s × AreLengthsOfRuns text m n
Plays (NoScene line cause) text p q r s = (run : Run) × IsPlayed false text run × (run.ending ≡ scene_refused line cause) × (q ≡ p) × (s ≡ r)
Plays TooLong text p q r s = (longest_input < length text) × (q ≡ p) × (s ≡ r)
Plays OutOfMemory text p q r s = (length text ≤ longest_input) × (q ≡ p) × (s ≡ r)

-- the number that C sees
abbrev pub end_number : PlayEnd → ℕ
end_number (Done m n) = 0
end_number OutOfMemory = 17
end_number (TooSmall m n) = 103
end_number (NoScene line cause) = 106
end_number TooLong = 107

-- what C is told beside it
abbrev pub told_of : PlayEnd → Played → Played
told_of (Done m n) old = record { pictures = m; report = n; line = 0; cause = 0 }
told_of (TooSmall m n) old = record { pictures = m; report = n; line = 0; cause = 0 }
told_of (NoScene line cause) old = record { pictures = 0; report = 0; line = line; cause = cause }
told_of TooLong old = old
told_of OutOfMemory old = old
