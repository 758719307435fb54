-- What a run reads.
use Rattle.std.specs.Prelude.{◌≡◌, ℕ, ◌≤◌, List, length, Option}
use Rattle.io_edge.specs.Edge.{with_front, IsSpent}

-- the longest input
abbrev pub longest : ℕ
longest = 4294967296

-- a source that had something left was read to its end and gave these bytes, not too many
pub record IsRead (bytes : List ℕ) (before after : Option (List ℕ)) : Type 0 where
  pub given : before ≡ with_front bytes after
  pub ended : IsSpent after
  pub few : length bytes ≤ longest
