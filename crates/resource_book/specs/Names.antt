-- The names of live uniforms, with their indices.
use Rattle.std.specs.Prelude.{ℕ, Bool, false, List, Option, Some, None, Vec, bytes_eq}
use Rattle.std.specs.Global.{Global}
use Rattle.std.specs.Map.{lookup}

-- names with the indices of their uniforms, and how many more there is room for
pub record NamesView : Type 0 where
  pub entries : List (List ℕ × ℕ)
  pub spare : ℕ

-- a name with its index
abbrev pub entry_seen : Vec ℕ Global × ℕ → List ℕ × ℕ
entry_seen e = (e.0.items, e.1)

-- the index of a name
abbrev pub index_in : List (List ℕ × ℕ) → List ℕ → Option ℕ
index_in entries name = lookup (bytes_eq name) entries

-- whether a text is there, and is a name
abbrev pub is_text : List ℕ → Option (List ℕ) → Bool
is_text name None = false
is_text name (Some text) = bytes_eq text name
