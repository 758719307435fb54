-- A row of slots: for each index a thing, or none.
use Rattle.std.specs.Prelude.{ℕ, List, replicate, Option, Some, None, slice_get, slice_set, unwrap_or, option_map}

-- what a row has at an index; none past the end
abbrev pub at : {X : Type 0} → List (Option X) → ℕ → Option X
at slots i = unwrap_or (slice_get slots i) None

-- a row without things
unfoldable pub no_slots : {X : Type 0} → ℕ → List (Option X)
no_slots n = replicate n None

-- a row with a thing at an index
abbrev pub filled_at : {X : Type 0} → ℕ → X → List (Option X) → List (Option X)
filled_at i x slots = slice_set slots i (Some x)

-- a row without the thing at an index
abbrev pub emptied_at : {X : Type 0} → ℕ → List (Option X) → List (Option X)
emptied_at i slots = slice_set slots i None

-- a row with the thing at an index, if there is one, changed
abbrev pub changed_at : {X : Type 0} → (X → X) → ℕ → List (Option X) → List (Option X)
changed_at change i slots = slice_set slots i (option_map change (at slots i))
