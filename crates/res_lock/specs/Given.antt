-- Which frames the calls of a history give.
use Rattle.std.specs.Prelude.{◌≡◌, ℕ, List, [], ◌∷◌, ◌++◌, map}
use Rattle.std.specs.List.{AllByRecursion}
use Rattle.gfx_model.specs.World.{Item}
use Rattle.gfx_model.specs.FrameCalls.{CallState}
use Rattle.schedule_model.specs.Machine.{Place}
use Rattle.resource_book.specs.Written.{BookView}
use Rattle.draw_encoder.specs.declared.items.Recording.{Recording}
use Rattle.frame_record.specs.declared.frame.Frame.{Frame}
use Rattle.context_core.specs.Ended.{IsFrameOf}
use Rattle.gfx_context.specs.Gathered.{AreOfFrame}
use Rattle.res_lock.specs.Histories.{Reply, made, done, given, begun, refused, ending, ended, LockEntry, state_after}
use Rattle.res_lock.specs.Written.{book_after}
use Rattle.res_lock.specs.Locked.{LockView}

-- the number of the frame that a reply tells as given, if it tells one
abbrev pub told_given : Reply → List ℕ
told_given (made handle) = []
told_given done = []
told_given (given number) = number ∷ []
told_given (begun number) = []
told_given (refused r) = []
told_given (ending number outcome) = []
told_given (ended number) = []

-- the numbers of the frames that a history tells as given, in order
abbrev pub given_in : List LockEntry → List ℕ
given_in [] = []
given_in (e ∷ es) = told_given e.reply ++ given_in es

-- a frame was given by an entry of a history, which tells its number: it has what the calls before that entry wrote, and one recording of each encoder that
-- was begun in its frame before, as `admits` admits it
pub record IsGivenIn (admits : ℕ → ℕ → List Item → ℕ → Type 0) (views : ℕ) (start : CallState) (book : BookView) (history : List LockEntry) (f : Frame) : Type 0 where
  pub before : List LockEntry
  pub entry : LockEntry
  pub later : List LockEntry
  pub at : history ≡ before ++ entry ∷ later
  pub told : entry.reply ≡ given f.number
  pub gathered : List Recording
  pub places : List Place
  pub recordings : AreOfFrame admits views f.number places (state_after start before).encoders gathered
  pub is_of : IsFrameOf (book_after book before) gathered f

-- what was given behind the first frames is just what the history tells as given: a frame for each such entry, in their order
pub record HasGiven {L : Type 0} (admits : ℕ → ℕ → List Item → ℕ → Type 0) (views : ℕ) (start : CallState) (book : BookView) (first : List Frame) (v : LockView L) : Type 0 where
  pub frames : List Frame
  pub given_is : v.context.given ≡ first ++ frames
  pub numbers : map (λ f. f.number) frames ≡ given_in v.history
  pub each : AllByRecursion (IsGivenIn admits views start book v.history) frames
