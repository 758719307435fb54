-- What a field must be.
use Rattle.std.specs.Prelude.{ℕ, ◌+◌, Bool, true, false, not, ◌&&◌, ◌||◌, if◌then◌else◌, Option, Some, None, List, [], ◌∷◌, codes}
use Rattle.std.specs.List.{list_all}
use Rattle.scene_model.specs.Field.{is_name, is_dash}
use Rattle.scene_model.specs.Grammar.{Field, is_empty_field, is_text_byte}
use Rattle.fault_fields.specs.Spelled.{is_number, is_integer, is_one_of, is_hex, is_color, is_source, is_part}
use Rattle.fault_fields.specs.Names.{is_made}
use Rattle.fault_fields.specs.declared.kind.Kind.{Kind}
use Rattle.fault_fields.specs.declared.kind.Kind.TheVariants as kinds

-- a field is what it must be, behind some lines
abbrev pub is_right : List (List ℕ) → Kind → Field → Bool
is_right before kinds.Any f = true
is_right before kinds.Text f = list_all is_text_byte f
is_right before kinds.Filled f = not (is_empty_field f)
is_right before kinds.NewName f = is_name f && not (is_made true before f)
is_right before kinds.NewUniform f = is_name f && not (is_made false before f)
is_right before kinds.Name f = is_name f && is_made true before f
is_right before kinds.NameOrNone f = is_dash f || (is_name f && is_made true before f)
is_right before (kinds.Number low high) f = is_number low high f
is_right before kinds.Integer f = is_integer f
is_right before kinds.Format f = is_one_of (codes "rgba8" ∷ codes "d24s8" ∷ []) f
is_right before kinds.Destination f = is_one_of (codes "dst" ∷ codes "-" ∷ []) f
is_right before kinds.Program f = is_one_of (codes "solid" ∷ codes "color" ∷ codes "texture" ∷ codes "texcolor" ∷ []) f
is_right before kinds.Uniform f = is_one_of (codes "vec4" ∷ codes "int" ∷ []) f
is_right before kinds.Setting f = is_one_of (codes "rect" ∷ codes "scissor" ∷ codes "clear" ∷ codes "mode" ∷ codes "target" ∷ codes "transform" ∷ codes "reset" ∷ []) f
is_right before kinds.Mode f = is_one_of (codes "default" ∷ codes "sequential" ∷ codes "ascending" ∷ codes "descending" ∷ []) f
is_right before kinds.Hex f = is_hex f
is_right before kinds.Color f = is_color f
is_right before kinds.Source f = is_source f
is_right before kinds.Part f = is_part f

-- what the next field must be; the last of the kinds is that of all fields behind it
abbrev pub first_kind : List Kind → Kind
first_kind [] = kinds.Any
first_kind (k ∷ ks) = k

-- what the fields behind the next one must be
abbrev pub later_kinds : List Kind → List Kind
later_kinds [] = []
later_kinds (k ∷ []) = k ∷ []
later_kinds (k ∷ l ∷ ks) = l ∷ ks

-- the number of the first field that is not what it must be, where the first of them has number n
abbrev pub first_wrong : List (List ℕ) → ℕ → List Kind → List Field → Option ℕ
first_wrong before n ks [] = None
first_wrong before n ks (f ∷ fs) = if is_right before (first_kind ks) f then first_wrong before (n + 1) (later_kinds ks) fs else Some n
