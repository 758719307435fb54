-- Runs in order, swept from the first to the last.
use Rattle.std.specs.Prelude.{◌≡◌, ℕ, ◌<◌, ◌≤◌, ◌⊎◌, nat_lt, nat_le, Bool, true, not, ◌&&◌, ◌||◌, ◌==◌, if◌then◌else◌, List, [], ◌∷◌, ⊤}
use Rattle.covered_rows.specs.declared.runs.Run.{Run}

-- by key, row and first column
abbrev pub ComesBefore : Run → Run → Type 0
ComesBefore x y = (x.key < y.key) ⊎ ((x.key ≡ y.key) × ((x.row < y.row) ⊎ ((x.row ≡ y.row) × (x.first ≤ y.first))))

-- each run is in order with the next
abbrev pub AreInOrderFrom : Run → List Run → Type 0
AreInOrderFrom m [] = ⊤
AreInOrderFrom m (n ∷ rest) = ComesBefore m n × AreInOrderFrom n rest

abbrev pub AreInOrder : List Run → Type 0
AreInOrder [] = ⊤
AreInOrder (m ∷ rest) = AreInOrderFrom m rest

-- both are of one key and of one row
abbrev pub is_beside : Run → Run → Bool
is_beside m n = (m.key == n.key) && (m.row == n.row)

-- where they are, and of two encoders, the second begins behind the first
abbrev pub is_clear : Run → Run → Bool
is_clear m n = not (is_beside m n) || ((m.encoder == n.encoder) || nat_le m.after n.first)

-- the end of the second, or that of the first where it is of the same encoder beside it and ends later
abbrev pub joined_after : Run → Run → ℕ
joined_after m n = if (is_beside m n && (m.encoder == n.encoder)) && nat_lt n.after m.after then m.after else n.after

-- the second with that end
abbrev pub joined : Run → Run → Run
joined m n = record { key = n.key; encoder = n.encoder; row = n.row; first = n.first; after = joined_after m n }

-- each run is clear of the one before, as that is joined with those before it
abbrev pub sweep_from : Run → List Run → Bool
sweep_from m [] = true
sweep_from m (n ∷ rest) = is_clear m n && sweep_from (joined m n) rest

abbrev pub sweep_of : List Run → Bool
sweep_of [] = true
sweep_of (m ∷ rest) = sweep_from m rest
