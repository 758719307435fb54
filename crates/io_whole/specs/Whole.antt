-- What was given of a source, and what was put into a sink.
use Rattle.std.specs.Prelude.{◌≡◌, ℕ, ◌<◌, ◌≤◌, List, length, take, Option}
use Rattle.io_edge.specs.Edge.{with_front, with_back, IsSpent}

-- the longest input, in bytes
abbrev pub longest : ℕ
longest = 16777216

-- a source that had something left was read to its end and gave these bytes, not too many
pub record IsRead (bytes : List ℕ) (before after : Option (List ℕ)) : Type 0 where
  pub given : before ≡ with_front bytes after
  pub ended : IsSpent after
  pub few : length bytes ≤ longest

-- more bytes than these were given, with what is left after them
pub record HasMoreThan (n : ℕ) (left : Option (List ℕ)) : Type 0 where
  pub bytes : List ℕ
  pub rest : Option (List ℕ)
  pub given : left ≡ with_front bytes rest
  pub many : n < length bytes

-- what was put is a front of a text
abbrev pub HasFront : Option (List ℕ) → List ℕ → Option (List ℕ) → Type 0
HasFront old text new = (n : ℕ) × (new ≡ with_back old (take n text))
