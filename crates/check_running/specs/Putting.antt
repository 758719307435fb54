-- How texts are put.
use Rattle.std.specs.Prelude.{◌≡◌, ℕ, List, ◌++◌, Option}
use Rattle.io_edge.specs.Edge.{with_back}
use Rattle.io_whole.specs.Whole.{HasFront}
use Rattle.check_running.specs.declared.status.CheckStatus.{CheckStatus}
use Rattle.check_running.specs.declared.status.CheckStatus.TheVariants as status

-- the lines were put, or a front of them
abbrev pub IsPut : CheckStatus → List ℕ → (old new : Option (List ℕ)) → Type 0 → Type 0
IsPut status.Done text old new put_failed = new ≡ with_back old text
IsPut status.LineFault text old new put_failed = HasFront old text new × put_failed
IsPut status.OutOfMemory text old new put_failed = HasFront old text new
IsPut st text old new put_failed = ⊥

-- the run ends as it should with its note, or a front of the note was put, or nothing
pub data IsTold (st wanted : CheckStatus) (note : List ℕ) (old new : Option (List ℕ)) (put_failed : Type 0) : Type 0 where
  whole : st ≡ wanted → new ≡ with_back old note → IsTold st wanted note old new put_failed
  cut : st ≡ status.NoteFault → HasFront old note new → put_failed → IsTold st wanted note old new put_failed
  none : st ≡ status.OutOfMemory → new ≡ old → IsTold st wanted note old new put_failed

-- a front of a text was put, and the rest is left
pub record IsPutSoFar (old : Option (List ℕ)) (rest whole : List ℕ) (new : Option (List ℕ)) : Type 0 where
  pub done : List ℕ
  pub put : new ≡ with_back old done
  pub left : whole ≡ done ++ rest
