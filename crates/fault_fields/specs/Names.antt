-- The names that lines make, and where blocks can begin.
use Rattle.std.specs.Prelude.{ℕ, Bool, true, false, ◌&&◌, ◌||◌, if◌then◌else◌, List, [], ◌∷◌, bytes_eq, codes}
use Rattle.std.specs.List.{list_any}
use Rattle.scene_model.specs.Field.{split_at}
use Rattle.scene_model.specs.Grammar.{Field, field}
use Rattle.fault_fields.specs.Spelled.{is_one_of}

-- the words of lines that make a name, beside `uniform`
abbrev pub create_words : List Field
create_words = codes "layout" ∷ codes "vb" ∷ codes "ib" ∷ codes "texture" ∷ codes "fb" ∷ codes "program" ∷ []

-- a line makes this name; with uniforms or without them
abbrev pub makes : (uniforms : Bool) → Field → List ℕ → Bool
makes uniforms name line =
    (is_one_of create_words (field (split_at 32 line) 0) || (uniforms && bytes_eq (codes "uniform") (field (split_at 32 line) 0))) && bytes_eq name (field (split_at 32 line) 1)

-- one of some lines makes this name
abbrev pub is_made : (uniforms : Bool) → List (List ℕ) → Field → Bool
is_made uniforms lines name = list_any (makes uniforms name) lines

-- behind a line, whether an encoder's block can begin: it can behind `frame`, till `beside` or `done`
abbrev pub opens_behind : Bool → List ℕ → Bool
opens_behind opens line =
    if is_one_of (codes "frame" ∷ codes "encoder" ∷ []) (field (split_at 32 line) 0) then true
    else (if is_one_of (codes "beside" ∷ codes "done" ∷ []) (field (split_at 32 line) 0) then false else opens)

-- the same behind several lines
abbrev pub opens_after : Bool → List (List ℕ) → Bool
opens_after opens [] = opens
opens_after opens (l ∷ lines) = opens_after (opens_behind opens l) lines
