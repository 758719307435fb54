-- How the notes of blocks are put.
use Rattle.std.specs.Prelude.{◌≡◌, ℕ, List, Option}
use Rattle.io_edge.specs.Edge.{with_back}
use Rattle.load_text.specs.Loads.{Block}
use Rattle.io_whole.specs.Whole.{HasFront}
use Rattle.load_running.specs.LoadHistories.{AreNotesOf}
use Rattle.load_running.specs.declared.status.LoadStatus.{LoadStatus}
use Rattle.load_running.specs.declared.status.LoadStatus.TheVariants as status

-- the notes of a run of the blocks were put, or a front of them, or nothing
abbrev pub IsNoted : LoadStatus → List Block → (old new : Option (List ℕ)) → Type 0 → Type 0
IsNoted status.Done blocks old new put_failed = (text : List ℕ) × AreNotesOf blocks text × (new ≡ with_back old text)
IsNoted status.NoteFault blocks old new put_failed = (text : List ℕ) × AreNotesOf blocks text × HasFront old text new × put_failed
IsNoted status.OutOfMemory blocks old new put_failed = new ≡ old
IsNoted st blocks old new put_failed = ⊥
