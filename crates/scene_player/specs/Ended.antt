-- What is known after a run, for each status with which it may end.
use Rattle.std.specs.Prelude.{◌≡◌, ◌⊎◌, ℕ, ◌≤◌, false, List, [], length, take, Option, Some, None, Ok, ⊤}
use Rattle.io_edge.specs.Edge.{IsSpent, counted}
use Rattle.scene_model.specs.Scene.{Scene}
use Rattle.scene_model.specs.Grammar.{scene_of, front_of, whole_language}
use Rattle.scene_model.specs.Journal.{Journal, IsLawful, IsLawfulFront, shares_key, serial}
use Rattle.scene_model.specs.Journal as journals
use Rattle.scene_model.specs.Output.{pictures_text}
use Rattle.scene_model.specs.Generated.{generated}
use Rattle.scene_model.specs.Run.{Ending, Run, all_done, longest_input, unused}
use Rattle.command_line_model.specs.Taken.{Mode, play, replay, make, Command}
use Rattle.command_line_model.specs.Answer.{in_mode}
use Rattle.scene_showing.specs.Showing.{HasFirst}
use Rattle.scene_player.specs.declared.status.Status.{Status}
use Rattle.scene_player.specs.declared.status.Status.TheVariants as status
use Rattle.io_whole.specs.Runs.{Reading, HasFailedToGive, IsUnread, AreLeft, Putting, HasFailedToTake, IsUntouched, HasPut, HasPutFront, HasTried}
use Rattle.scene_player.specs.Numbers.{ending_of}

-- ---- the scene of a run, and the definition's answer

-- the scene that a mode shows: that of the input, that at the input's front, or the generated one
abbrev pub IsSceneIn : Mode → (count : ℕ) → List ℕ → Scene → Type 0
IsSceneIn play count bytes s = (length bytes ≤ longest_input) × (scene_of whole_language bytes ≡ Ok s)
IsSceneIn replay count bytes s = (length bytes ≤ longest_input) × (n : ℕ) × (front_of whole_language bytes ≡ Ok (s, n))
IsSceneIn make count bytes s = s ≡ generated count

-- the scene that a command shows of an input
abbrev pub IsSceneOf : Command → List ℕ → Scene → Type 0
IsSceneOf c bytes s = IsSceneIn c.mode c.count bytes s

-- what the definition answers to a command and an input, with the journal that the run returns
abbrev pub answer_of : Command → List ℕ → Journal → Run
answer_of c bytes journal = in_mode c.mode c (λ s. journal) bytes

-- `make` reads nothing and shows no picture; the other modes do both
abbrev pub ReadsAndShows : Mode → Type 0
ReadsAndShows make = ⊥
ReadsAndShows _ = ⊤

-- ---- what stands after each status

-- no frame ended, and nothing was put
pub record IsBlank (journal : Journal) (pictures notes : Putting) : Type 0 where
  pub no_frame : journal ≡ []
  pub no_picture : IsUntouched pictures
  pub no_note : IsUntouched notes

-- the definition refuses the run with this ending: no frame ended, no picture was put, and its line was put into the notes
pub record IsRefused (ending : Option Ending) (run : Run) (journal : Journal) (pictures notes : Putting) : Type 0 where
  pub refused : ending ≡ Some run.ending
  pub no_frame : journal ≡ []
  pub no_picture : IsUntouched pictures
  pub noted : HasTried run.noted notes

-- the scene was shown whole: the journal is lawful and the definition's, the pictures are those of the scene and the journal, and where
-- no key is shared between encoders, they are those of one thread
pub record IsShown (c : Command) (bytes : List ℕ) (journal : Journal) (pictures : Putting) : Type 0 where
  pub scene : Scene
  pub is : IsSceneOf c bytes scene
  pub lawful : IsLawful scene journal
  pub done : (answer_of c bytes journal).ending ≡ all_done
  pub drawn : (answer_of c bytes journal).journal ≡ journal
  pub put : HasPut (answer_of c bytes journal).pictures pictures
  pub one_thread : shares_key scene ≡ false → journals.pictures scene journal ≡ journals.pictures scene (serial scene)

-- the pictures failed: the journal is lawful as far as it goes and a front of the definition's, a front of its pictures was put, and
-- nothing was noted
pub record IsCutOff (c : Command) (bytes : List ℕ) (journal : Journal) (pictures notes : Putting) : Type 0 where
  pub scene : Scene
  pub is : IsSceneOf c bytes scene
  pub shows : ReadsAndShows c.mode
  pub lawful : IsLawfulFront scene journal
  pub done : (answer_of c bytes journal).ending ≡ all_done
  pub drawn : journal ≡ take (length journal) (answer_of c bytes journal).journal
  pub put : HasPutFront (pictures_text scene journal) pictures
  pub no_note : IsUntouched notes
  pub failed : HasFailedToTake pictures

-- whole pictures of the first frames were put; none by `make`
abbrev pub HasPutFirst : Mode → Scene → Journal → Putting → Type 0
HasPutFirst make s journal pictures = IsUntouched pictures
HasPutFirst _ s journal pictures = HasFirst s journal pictures.before pictures.after

-- memory ran out in a scene that the definition shows: the journal is lawful as far as it goes and a front of the definition's, whole
-- pictures of the first frames were put, and nothing was noted
pub record IsStarved (c : Command) (bytes : List ℕ) (journal : Journal) (pictures notes : Putting) : Type 0 where
  pub scene : Scene
  pub is : IsSceneOf c bytes scene
  pub lawful : IsLawfulFront scene journal
  pub done : (answer_of c bytes journal).ending ≡ all_done
  pub drawn : journal ≡ take (length journal) (answer_of c bytes journal).journal
  pub put : HasPutFirst c.mode scene journal pictures
  pub no_note : IsUntouched notes

-- what stands after a run over an input
abbrev pub IsAnswered : Status → Command → (bytes : List ℕ) → Journal → (pictures notes : Putting) → Type 0
IsAnswered status.Done c bytes journal pictures notes = IsShown c bytes journal pictures × HasPut (answer_of c bytes journal).noted notes
IsAnswered status.NoteFault c bytes journal pictures notes =
    IsShown c bytes journal pictures × HasPutFront (answer_of c bytes journal).noted notes × HasFailedToTake notes
IsAnswered status.PictureFault c bytes journal pictures notes = IsCutOff c bytes journal pictures notes
IsAnswered status.OutOfMemory c bytes journal pictures notes = IsBlank journal pictures notes ⊎ IsStarved c bytes journal pictures notes
IsAnswered status.ReadFault c bytes journal pictures notes = ⊥
IsAnswered st c bytes journal pictures notes = IsRefused (ending_of st) (answer_of c bytes journal) journal pictures notes

-- how far a source was read that gave these bytes: to its end, unless they are too many or memory ran out
abbrev pub IsReadFor : Status → Reading → Type 0
IsReadFor status.TooLong source = ⊤
IsReadFor status.OutOfMemory source = ⊤
IsReadFor _ source = IsSpent source.after

-- an input was read and answered, or the source failed
abbrev pub IsReadAndAnswered : Status → Command → Reading → Journal → (pictures notes : Putting) → Type 0
IsReadAndAnswered status.ReadFault c source journal pictures notes = HasFailedToGive source × IsBlank journal pictures notes
IsReadAndAnswered st c source journal pictures notes =
    (bytes : List ℕ) × AreLeft source.before bytes × IsReadFor st source × IsAnswered st c bytes journal pictures notes

-- `make` reads nothing
abbrev pub EndsIn : Mode → Status → Command → Reading → Journal → (pictures notes : Putting) → Type 0
EndsIn make st c source journal pictures notes = IsUnread source × IsAnswered st c [] journal pictures notes
EndsIn _ st c source journal pictures notes = IsReadAndAnswered st c source journal pictures notes

-- the end of a run: words that are no command are refused, and nothing is read
abbrev pub Ends : Status → Option Command → Reading → Journal → (pictures notes : Putting) → Type 0
Ends st None source journal pictures notes =
    (IsRefused (ending_of st) unused journal pictures notes × IsUnread source) ⊎ ((st ≡ status.OutOfMemory) × IsUnread source × IsBlank journal pictures notes)
Ends st (Some c) source journal pictures notes = EndsIn c.mode st c source journal pictures notes

-- ---- runs that meet no fault

-- the source told these bytes as those that were left, if the mode reads it
abbrev pub IsToldIn : Mode → Reading → List ℕ → Type 0
IsToldIn make source bytes = ⊤
IsToldIn _ source bytes = source.before ≡ Some bytes

-- the source told these bytes and did not fail, if the command reads it
abbrev pub IsGiven : Option Command → Reading → List ℕ → Type 0
IsGiven None source bytes = ⊤
IsGiven (Some c) source bytes = IsToldIn c.mode source bytes × (ReadsAndShows c.mode → HasFailedToGive source → ⊥)

-- the pictures did not fail, if the command shows them, nor did the notes
abbrev pub AreTaken : Option Command → (pictures notes : Putting) → Type 0
AreTaken None pictures notes = ⊤
AreTaken (Some c) pictures notes = (ReadsAndShows c.mode → HasFailedToTake pictures → ⊥) × (HasFailedToTake notes → ⊥)

-- the run ends as the definition says, or for want of memory
abbrev pub EndsAs : Ending → Status → Type 0
EndsAs ending st = (ending_of st ≡ Some ending) ⊎ (st ≡ status.OutOfMemory)

-- ---- a sink of pictures that counts

-- where all pictures were put, the sink counted their texts
abbrev pub CountsPictures : Status → Scene → Journal → (old new : Option (ℕ × ℕ)) → Type 0
CountsPictures status.Done s journal old new = new ≡ counted old (pictures_text s journal)
CountsPictures status.NoteFault s journal old new = new ≡ counted old (pictures_text s journal)
CountsPictures _ s journal old new = ⊤
