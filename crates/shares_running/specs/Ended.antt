-- What is known after a run, for each status with which it may end.
use Rattle.std.specs.Prelude.{◌≡◌, ◌⊎◌, ℕ, List, Option, Some, None, Ok, Err}
use Rattle.io_edge.specs.Edge.{with_back}
use Rattle.scene_model.specs.Scene.{Scene}
use Rattle.scene_model.specs.Grammar.{whole_language, scene_of}
use Rattle.shares_running.specs.Lines.{IsText}
use Rattle.shares_running.specs.declared.words.Job.{Job}
use Rattle.io_whole.specs.Whole.{longest, IsRead, HasMoreThan, HasFront}
use Rattle.shares_running.specs.declared.status.SharesStatus.{SharesStatus}
use Rattle.shares_running.specs.declared.status.SharesStatus.TheVariants as status

-- the source was read to its end, and its bytes are a scene
pub record IsScene (bytes : List ℕ) (s : Scene) (before after : Option (List ℕ)) : Type 0 where
  pub read : IsRead bytes before after
  pub is : scene_of whole_language bytes ≡ Ok s

-- of a job; before and after: what the source has left; old and new: what the notes hold; the last two: a read failed, a put failed
abbrev pub Ended : Job → SharesStatus → (before after old new : Option (List ℕ)) → Type 0 → Type 0 → Type 0
Ended job status.Done before after old new read_failed put_failed =
    (bytes : List ℕ) × (s : Scene) × (text : List ℕ) × IsScene bytes s before after × IsText job bytes s text × (new ≡ with_back old text)
Ended job (status.Scene line cause) before after old new read_failed put_failed =
    (bytes : List ℕ) × IsRead bytes before after × (scene_of whole_language bytes ≡ Err (record { line = line; cause = cause })) × (new ≡ old)
Ended job status.ReadFault before after old new read_failed put_failed = read_failed × (new ≡ old)
Ended job status.NoteFault before after old new read_failed put_failed =
    (bytes : List ℕ) × (s : Scene) × (text : List ℕ) × IsScene bytes s before after × IsText job bytes s text × HasFront old text new × put_failed
Ended job status.TooLong before after old new read_failed put_failed = HasMoreThan longest before × (new ≡ old)
Ended job status.OutOfMemory before after old new read_failed put_failed = new ≡ old
Ended job status.Usage before after old new read_failed put_failed = ⊥

-- the end of a run: words that ask for nothing are refused, and nothing is read or put
abbrev pub Ends : Option Job → SharesStatus → (before after old new : Option (List ℕ)) → Type 0 → Type 0 → Type 0
Ends None st before after old new read_failed put_failed = (st ≡ status.Usage) × (after ≡ before) × (new ≡ old)
Ends (Some job) st before after old new read_failed put_failed = Ended job st before after old new read_failed put_failed

-- the run ends so, or for want of memory
abbrev pub EndsAs : SharesStatus → SharesStatus → Type 0
EndsAs wanted st = (st ≡ wanted) ⊎ (st ≡ status.OutOfMemory)
