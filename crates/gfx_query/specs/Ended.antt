-- What is known after a run, for each status with which it may end.
use Rattle.std.specs.Prelude.{◌≡◌, ◌⊎◌, ℕ, List, Option, Ok, Err}
use Rattle.io_edge.specs.Edge.{with_back}
use Rattle.gfx_query.specs.Queries.{Script, notes_of}
use Rattle.gfx_query.specs.Text.{script_of}
use Rattle.io_whole.specs.Whole.{longest, IsRead, HasMoreThan, HasFront}
use Rattle.gfx_query.specs.declared.status.QueryStatus.{QueryStatus}
use Rattle.gfx_query.specs.declared.status.QueryStatus.TheVariants as status

-- the source was read to its end, and its bytes are a script
pub record IsScript (bytes : List ℕ) (script : Script) (before after : Option (List ℕ)) : Type 0 where
  pub read : IsRead bytes before after
  pub is : script_of bytes ≡ Ok script

-- before and after: what the source has left; old and new: what the notes hold; the last two: a read failed, a put failed
abbrev pub Ended : QueryStatus → (before after old new : Option (List ℕ)) → Type 0 → Type 0 → Type 0
Ended status.Done before after old new read_failed put_failed =
    (bytes : List ℕ) × (s : Script) × IsScript bytes s before after × (new ≡ with_back old (notes_of s))
Ended (status.Text line) before after old new read_failed put_failed =
    (bytes : List ℕ) × IsRead bytes before after × (script_of bytes ≡ Err line) × (new ≡ old)
Ended status.ReadFault before after old new read_failed put_failed = read_failed × (new ≡ old)
Ended status.NoteFault before after old new read_failed put_failed =
    (bytes : List ℕ) × (s : Script) × IsScript bytes s before after × HasFront old (notes_of s) new × put_failed
Ended status.TooLong before after old new read_failed put_failed = HasMoreThan longest before × (new ≡ old)
Ended status.OutOfMemory before after old new read_failed put_failed = new ≡ old

-- the run ends so, or for want of memory
abbrev pub EndsAs : QueryStatus → QueryStatus → Type 0
EndsAs wanted st = (st ≡ wanted) ⊎ (st ≡ status.OutOfMemory)
