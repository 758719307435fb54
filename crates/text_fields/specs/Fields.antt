-- The bytes of fields.
use Rattle.std.specs.Prelude.{ℕ, List, map}
use Rattle.std.specs.Borrow.{Bor}

-- the bytes of each field
abbrev pub texts : List (Bor (List ℕ)) → List (List ℕ)
texts fs = map (λ f. f.now) fs
