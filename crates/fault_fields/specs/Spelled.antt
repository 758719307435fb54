-- How fields are spelled.
use Rattle.std.specs.Prelude.{ℕ, nat_le, Bool, false, not, ◌&&◌, ◌||◌, ◌==◌, ◌%◌, if◌then◌else◌, List, [], ◌∷◌, drop, length, bytes_eq, codes}
use Rattle.std.specs.List.{list_all, starts_with}
use Rattle.scene_model.specs.Field.{is_digit, is_numeral, is_negative_numeral, value_onto, is_dash, split_at}
use Rattle.scene_model.specs.Grammar.{Field, is_empty_field}

-- a number from low to high
abbrev pub is_number : (low high : ℕ) → Field → Bool
is_number low high f = is_numeral f && (nat_le low (value_onto 0 f) && nat_le (value_onto 0 f) high)

-- a number of 32 bits with a sign
abbrev pub is_integer : Field → Bool
is_integer f = if is_numeral f then nat_le (value_onto 0 f) 2147483647 else (is_negative_numeral f && nat_le (value_onto 0 (drop 1 f)) 2147483648)

-- one of some words
abbrev pub is_one_of : List Field → Field → Bool
is_one_of [] f = false
is_one_of (w ∷ rest) f = bytes_eq w f || is_one_of rest f

-- a digit of sixteen
abbrev pub is_hex_digit : ℕ → Bool
is_hex_digit b = is_digit b || (nat_le 97 b && nat_le b 102)

-- pairs of digits of sixteen, one at least, or `-`
abbrev pub is_hex : Field → Bool
is_hex f = is_dash f || (not (is_empty_field f) && ((length f % 2 == 0) && list_all is_hex_digit f))

-- eight digits of sixteen
abbrev pub is_color : Field → Bool
is_color f = (length f == 8) && list_all is_hex_digit f

-- `fill:COLOR` or `hex:HEX`
abbrev pub is_source : Field → Bool
is_source f = if starts_with ◌==◌ f (codes "fill:") then is_color (drop 5 f) else (starts_with ◌==◌ f (codes "hex:") && is_hex (drop 4 f))

-- the words of attributes
abbrev pub attribute_words : List Field
attribute_words = codes "position" ∷ codes "normal" ∷ codes "tangent" ∷ codes "color0" ∷ codes "color1" ∷ codes "texcoord0" ∷ codes "texcoord1" ∷ []

-- the words of an attribute's components
abbrev pub component_words : List Field
component_words = codes "u8" ∷ codes "i16" ∷ codes "fixed" ∷ []

-- the pieces of a part: `skip:N` or `ATTR:TYPE:COUNT`
abbrev pub are_of_part : List Field → Bool
are_of_part (a ∷ n ∷ []) = bytes_eq (codes "skip") a && is_number 1 255 n
are_of_part (a ∷ t ∷ n ∷ []) = is_one_of attribute_words a && (is_one_of component_words t && is_number 1 4 n)
are_of_part _ = false

-- a part of a layout
abbrev pub is_part : Field → Bool
is_part f = are_of_part (split_at 58 f)
