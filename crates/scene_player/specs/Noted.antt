-- What is noted of a scene, by how it was shown.
use Rattle.std.specs.Prelude.{◌≡◌, ℕ, Bool, if◌then◌else◌, List, [], ◌++◌, sum_by, decimal, codes}
use Rattle.scene_model.specs.Journal.{Journal}
use Rattle.scene_model.specs.Output.{journal_text}
use Rattle.scene_progress.specs.Notes.{note_lines}
use Rattle.scene_showing.specs.declared.showing.End.{End}
use Rattle.scene_showing.specs.declared.showing.End.TheVariants as ends
use Rattle.scene_player.specs.declared.status.Status.{Status}
use Rattle.scene_player.specs.declared.status.Status.TheVariants as status
use Rattle.io_whole.specs.Runs.{Putting, HasFailedToTake, IsUntouched, HasPut, HasPutFront}

-- the lines of all frames, from their numbers of items and of dropped lines, and the journal's text where it is asked for
abbrev pub notes_text : List (ℕ × ℕ) → Journal → (with_journal : Bool) → List ℕ
notes_text frames journal with_journal = note_lines 0 frames ++ (if with_journal then journal_text journal else [])

-- the items of all frames
abbrev pub items_of : List (ℕ × ℕ) → ℕ
items_of frames = sum_by (λ n. n.0) frames

-- the line of a generated scene
abbrev pub made_line : (frames items sum : ℕ) → List ℕ
made_line frames items sum = codes "frames " ++ (decimal frames ++ (codes " items " ++ (decimal items ++ (codes " sum " ++ (decimal sum ++ codes "\n")))))

-- a text is noted where all was shown; nothing is noted after a fault of the pictures and for want of memory
abbrev pub IsNoted : Status → End → (text : List ℕ) → Putting → Type 0
IsNoted status.Done end text notes = (end ≡ ends.Done) × HasPut text notes
IsNoted status.NoteFault end text notes = (end ≡ ends.Done) × HasPutFront text notes × HasFailedToTake notes
IsNoted status.PictureFault end text notes = (end ≡ ends.PictureFault) × IsUntouched notes
IsNoted status.OutOfMemory end text notes = (end ≡ ends.PictureFault → ⊥) × IsUntouched notes
IsNoted _ end text notes = ⊥
