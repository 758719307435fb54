-- Runs of two encoders that have no column in common.
use Rattle.std.specs.Prelude.{◌≡◌, ℕ, ◌<◌, ◌≤◌, List}
use Rattle.shared_keys.specs.Members.{In}
use Rattle.covered_rows.specs.declared.runs.Run.{Run}

-- a column is in a run
abbrev pub HasColumn : Run → ℕ → Type 0
HasColumn r c = (r.first ≤ c) × (c < r.after)

-- each run has a column
abbrev pub HaveColumns : List Run → Type 0
HaveColumns runs = (r : Run) → In r runs → r.first < r.after

-- a column of a row is in two runs of one key and of two encoders
abbrev pub Meet : List Run → Run → Run → ℕ → Type 0
Meet runs x y c = In x runs × In y runs × (x.key ≡ y.key) × (x.row ≡ y.row) × (x.encoder ≡ y.encoder → ⊥) × HasColumn x c × HasColumn y c

-- some column is in two such runs
abbrev pub SomeMeet : List Run → Type 0
SomeMeet runs = (x : Run) × ((y : Run) × ((c : ℕ) × Meet runs x y c))

-- no column of a row is in two runs of one key and of two encoders
abbrev pub AreApart : List Run → Type 0
AreApart runs = (x y : Run) → In x runs → In y runs → x.key ≡ y.key → x.row ≡ y.row → (x.encoder ≡ y.encoder → ⊥) → (c : ℕ) → HasColumn x c → HasColumn y c → ⊥
