-- What is known after a load, for each status with which it may end.
use Rattle.std.specs.Prelude.{◌≡◌, ◌⊎◌, ℕ, List, Option, Ok, Err}
use Rattle.io_edge.specs.Edge.{with_back}
use Rattle.load_text.specs.Loads.{Block}
use Rattle.load_text.specs.Text.{load_of}
use Rattle.load_text.specs.Laws.{IsTextOf, AreBlocks}
use Rattle.load_running.specs.LoadHistories.{AreNotesOf}
use Rattle.io_whole.specs.Whole.{longest, IsRead, HasMoreThan, HasFront}
use Rattle.load_running.specs.declared.status.LoadStatus.{LoadStatus}
use Rattle.load_running.specs.declared.status.LoadStatus.TheVariants as status

-- the source was read to its end, and its bytes are a load of these blocks, one for each caller at most
pub record IsLoad (bytes : List ℕ) (blocks : List Block) (before after : Option (List ℕ)) : Type 0 where
  pub read : IsRead bytes before after
  pub is : load_of bytes ≡ Ok blocks
  pub count : ℕ
  pub callers : IsTextOf count bytes
  pub are : AreBlocks count blocks

-- before and after: what the source has left; old and new: what the notes hold; the last two: a read failed, a put failed
abbrev pub Ended : LoadStatus → (before after old new : Option (List ℕ)) → Type 0 → Type 0 → Type 0
Ended status.Done before after old new read_failed put_failed =
    (bytes : List ℕ) × (blocks : List Block) × (text : List ℕ) × IsLoad bytes blocks before after × AreNotesOf blocks text × (new ≡ with_back old text)
Ended (status.Text line) before after old new read_failed put_failed =
    (bytes : List ℕ) × IsRead bytes before after × (load_of bytes ≡ Err line) × (new ≡ old)
Ended status.ReadFault before after old new read_failed put_failed = read_failed × (new ≡ old)
Ended status.NoteFault before after old new read_failed put_failed =
    (bytes : List ℕ) × (blocks : List Block) × (text : List ℕ) × IsLoad bytes blocks before after × AreNotesOf blocks text × HasFront old text new × put_failed
Ended status.TooLong before after old new read_failed put_failed = HasMoreThan longest before × (new ≡ old)
Ended status.OutOfMemory before after old new read_failed put_failed = new ≡ old

-- the load ends so, or for want of memory
abbrev pub EndsAs : LoadStatus → LoadStatus → Type 0
EndsAs wanted st = (st ≡ wanted) ⊎ (st ≡ status.OutOfMemory)
