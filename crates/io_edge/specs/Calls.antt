-- How calls are counted.
use Rattle.std.specs.Prelude.{◌≡◌, ◌==◌, ◌+◌, ℕ, Bool, List, min}
use Rattle.std.specs.List.{list_any}
use Rattle.io_edge.specs.declared.calls.Calls.{Calls}

-- whether a call is one of those that fail
abbrev pub is_listed : List ℕ → ℕ → Bool
is_listed fails call = list_any (λ n. n == call) fails

-- no call and no fault yet
abbrev pub IsNew : Calls → List ℕ → Type 0
IsNew calls fails = (calls.fails.items ≡ fails) × (calls.made ≡ 0) × (calls.faults ≡ 0)

-- one call more, and the list of those that fail stays
abbrev pub IsCalled : Calls → Calls → Type 0
IsCalled old new = (new.made ≡ min (old.made + 1) 18446744073709551615) × (new.fails.items ≡ old.fails.items)
