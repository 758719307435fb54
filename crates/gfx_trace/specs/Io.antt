-- What a run reads.
use Rattle.std.specs.Prelude.{◌≡◌, ℕ, ◌≤◌, List, length}
use Rattle.io_edge.specs.Edge.{with_front, IsSpent}
use Rattle.io_whole.specs.Whole.{longest}
use Rattle.io_whole.specs.Runs.{Reading}

-- the source was read to its end and gave these bytes, not too many
pub record IsRead (bytes : List ℕ) (r : Reading) : Type 0 where
  pub given : r.before ≡ with_front bytes r.after
  pub ended : IsSpent r.after
  pub few : length bytes ≤ longest
