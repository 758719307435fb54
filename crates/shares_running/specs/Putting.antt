-- How the lines of a scene are put.
use Rattle.std.specs.Prelude.{◌≡◌, ℕ, List, Option}
use Rattle.io_edge.specs.Edge.{with_back}
use Rattle.io_whole.specs.Whole.{HasFront}
use Rattle.shares_running.specs.declared.status.SharesStatus.{SharesStatus}
use Rattle.shares_running.specs.declared.status.SharesStatus.TheVariants as status

-- a text of that kind was put, or a front of it, or nothing
abbrev pub IsNoted : SharesStatus → (List ℕ → Type 0) → (old new : Option (List ℕ)) → Type 0 → Type 0
IsNoted status.Done Is old new put_failed = (text : List ℕ) × Is text × (new ≡ with_back old text)
IsNoted status.NoteFault Is old new put_failed = (text : List ℕ) × Is text × HasFront old text new × put_failed
IsNoted status.OutOfMemory Is old new put_failed = new ≡ old
IsNoted st Is old new put_failed = ⊥

-- the same of a text that was made, if there was memory for it
abbrev pub IsPut : SharesStatus → List ℕ → (old new : Option (List ℕ)) → Type 0 → Type 0
IsPut status.Done text old new put_failed = new ≡ with_back old text
IsPut status.NoteFault text old new put_failed = HasFront old text new × put_failed
IsPut st text old new put_failed = ⊥
