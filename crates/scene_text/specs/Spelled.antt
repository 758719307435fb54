-- The fields of a line that is written.
use Rattle.std.specs.Prelude.{ℕ, List, ◌∷◌, ◌++◌, flat_map, codes}
use Rattle.std.specs.Fmt.{decimal, signed_decimal}
use Rattle.spelling_model.specs.FieldSpelling.{hex_field, color_spelled, part_spelled}
use Rattle.scene_text.specs.declared.spelled.Spelled.{Spelled}
use Rattle.scene_text.specs.declared.spelled.Spelled.TheVariants as fields
use Rattle.scene_text.specs.Seen.{part_seen}

-- the text of a field
abbrev pub spelled : Spelled → List ℕ
spelled (fields.Text text) = text.now
spelled (fields.Number n) = decimal n
spelled (fields.Signed n) = signed_decimal n
spelled (fields.Hex bytes) = hex_field bytes.now
spelled (fields.Color color) = color_spelled color
spelled (fields.Fill color) = codes "fill:" ++ color_spelled color
spelled (fields.Texels bytes) = codes "hex:" ++ hex_field bytes.now
spelled (fields.Part part) = part_spelled (part_seen part)

-- fields behind a word, each after a blank
abbrev pub behind : List (List ℕ) → List ℕ
behind fs = flat_map (λ f. 32 ∷ f) fs
