-- The search for the newest uniform of a name and a kind.
use Rattle.std.specs.Prelude.{ℕ, ◌≡◌, ◌≤◌, true, false, Bool, ◌&&◌, nat_le, List, length, Option, Some, None, MatchOption, option_and_then, take}
use Rattle.gfx_model.specs.Words.{UniformKind, uniform_kind, greatest}
use Rattle.store_model.specs.Slots.{at}
use Rattle.store_model.specs.Buffers.{UniformSlot, is_named, IsNewest, HasNoneNamed}

-- whether a uniform is as new as another, if there is one
abbrev pub is_as_new : Option UniformSlot → UniformSlot → Bool
is_as_new None s = true
is_as_new (Some b) s = nat_le b.serial s.serial

-- whether a slot's uniform takes the place of the best so far: it has the name and the kind, and is as new
abbrev pub takes_over : List ℕ → UniformKind → Option UniformSlot → Option UniformSlot → Bool
takes_over name kind best None = false
takes_over name kind best (Some s) = is_named name kind s && is_as_new best s

-- the uniform of an index, if one is given
abbrev pub found_at : List (Option UniformSlot) → Option ℕ → Option UniformSlot
found_at slots i = option_and_then (at slots) i

-- the newest among the slots below a number, or none
abbrev pub IsFound : List ℕ → UniformKind → List (Option UniformSlot) → ℕ → Option ℕ → Type 0
IsFound name kind slots n found = MatchOption found (HasNoneNamed name kind (take n slots)) (λ i. IsNewest name kind (take n slots) i)

-- no slot from an end on has a uniform
abbrev pub IsEmptyFrom : ℕ → List (Option UniformSlot) → Type 0
IsEmptyFrom end slots = (i : ℕ) → end ≤ i → at slots i ≡ None

-- a slot for each index that a uniform can have, and an end that no uniform lies behind
pub record HasEnd (end : ℕ) (slots : List (Option UniformSlot)) : Type 0 where
  pub many : length slots ≡ greatest uniform_kind
  pub within : end ≤ greatest uniform_kind
  pub empty : IsEmptyFrom end slots
