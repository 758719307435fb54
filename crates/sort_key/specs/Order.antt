-- Keys compare as numbers just as their fields do from the highest down.
use Rattle.std.specs.Prelude.{ℕ, ◌≡◌, Bool, false, true, ◌&&◌, ◌||◌, ◌==◌, nat_lt, if◌then◌else◌, List, [], ◌∷◌}
use Rattle.gfx_model.specs.Views.{KeyFields, key_bits}
use Rattle.sort_key.specs.Fields.{IsKeyFields}

-- whether the first list comes before the second: the first place where they differ decides
abbrev pub comes_before : List ℕ → List ℕ → Bool
comes_before [] [] = false
comes_before [] (y ∷ ys) = true
comes_before (x ∷ xs) [] = false
comes_before (x ∷ xs) (y ∷ ys) = nat_lt x y || ((x == y) && comes_before xs ys)

-- the fields below the type, from the highest down
abbrev pub fields_below_type : KeyFields → List ℕ
fields_below_type k =
    if k.mode_type == 0 then k.blended ∷ k.program ∷ k.depth_field ∷ []
    else (if k.mode_type == 1 then k.depth_field ∷ k.blended ∷ k.program ∷ []
    else k.number ∷ k.blended ∷ k.program ∷ [])

-- the fields in the order in which they decide
abbrev pub from_highest : KeyFields → List ℕ
from_highest k = k.position ∷ k.mode_type ∷ fields_below_type k

-- keys are ordered as their fields are
abbrev pub OrderOfKeys : Type 0
OrderOfKeys = (j k : KeyFields) → IsKeyFields j → IsKeyFields k → nat_lt (key_bits j) (key_bits k) ≡ comes_before (from_highest j) (from_highest k)

-- no two lists of fields have one key
abbrev pub OneKeyOneFields : Type 0
OneKeyOneFields = (j k : KeyFields) → IsKeyFields j → IsKeyFields k → key_bits j ≡ key_bits k → j ≡ k
