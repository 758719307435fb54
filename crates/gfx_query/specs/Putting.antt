-- How the notes of a script are put.
use Rattle.std.specs.Prelude.{◌≡◌, ℕ, List, Option}
use Rattle.io_edge.specs.Edge.{with_back}
use Rattle.io_whole.specs.Whole.{HasFront}
use Rattle.gfx_query.specs.declared.status.QueryStatus.{QueryStatus}
use Rattle.gfx_query.specs.declared.status.QueryStatus.TheVariants as status

-- what the notes hold behind a status: all of the text, a front of it where a put failed, or nothing more
abbrev pub IsNoted : QueryStatus → List ℕ → (old new : Option (List ℕ)) → Type 0 → Type 0
IsNoted status.Done text old new put_failed = new ≡ with_back old text
IsNoted status.NoteFault text old new put_failed = HasFront old text new × put_failed
IsNoted status.OutOfMemory text old new put_failed = new ≡ old
IsNoted st text old new put_failed = ⊥
