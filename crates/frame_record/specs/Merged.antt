-- Entries with their numbers, as pairs, and from which of two lists the next is taken.
use Rattle.std.specs.Prelude.{ℕ, Bool, true, false, nat_lt, List, [], ◌∷◌}
use Rattle.gfx_model.specs.Frames as model
use Rattle.frame_record.specs.declared.merging.NumberedEntry.{NumberedEntry}
use Rattle.frame_record.specs.Seen.{entry_seen}

-- an entry with its item's number
abbrev pub pair_of : NumberedEntry → ℕ × model.Entry
pair_of n = (n.number, entry_seen n.entry)

-- whether the first of the right list comes before the first of the left one
abbrev pub right_first : List (ℕ × model.Entry) → List (ℕ × model.Entry) → Bool
right_first xs [] = false
right_first [] (y ∷ ys) = true
right_first (x ∷ xs) (y ∷ ys) = nat_lt y.0 x.0
