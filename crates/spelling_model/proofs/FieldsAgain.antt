-- What is spelled of a value in its range is read as that value.
use Rattle.std.proofs.Common.{◌≡◌, ℕ, suc, ◌+◌, ◌*◌, ◌-◌, ◌/◌, ◌%◌, ◌^◌, ◌<◌, ◌≤◌, nat_lt, leb, Bool, true, false, ◌&&◌, ◌==◌, cond, List, [], ◌∷◌, ◌++◌, map, length, get_or, Some, Ok, Err, refl, ap, ◌∙◌, arith}
use Rattle.std.specs.Prelude.{codes, flat_map, slice_index_or, ℤ, pos, negsuc}
use Rattle.std.specs.List.{AllByRecursion}
use Rattle.std.specs.Fmt.{decimal, signed_decimal}
use Rattle.std.proofs.lemmas.Bool.{le-leb, ne_eqb}
use Rattle.std.proofs.lemmas.Bool.Decides.{nat_tests}
use Rattle.std.proofs.lemmas.Fmt.{decimal_nonempty, first_decimal}
use Rattle.gfx_model.specs.Vertex.{Color, Attribute, position_attribute, normal_attribute, tangent_attribute, color0_attribute, color1_attribute, texcoord0_attribute, texcoord1_attribute, ComponentType, u8_type, i16_type, fixed_type, LayoutPart, attribute_part, skip_part}
use Rattle.gfx_model.specs.Words.{Format, rgba8, d24s8, ProgramKind, solid, vertex_color, textured, textured_color, UniformKind, vec4, int}
use Rattle.gfx_model.specs.Views.{ViewMode, default_mode, sequential_mode, ascending_mode, descending_mode}
use Rattle.gfx_model.specs.Resources.{TexelSource, fill_source, bytes_source}
use Rattle.scene_model.specs.Field.{Read, ◌>>=◌, no_number, is_digit, is_numeral, is_negative_numeral, value_onto, natural, in_range, number_in, integer, i32_in_range, i32_number, read_all, hex_value, hex_byte, hex_pairs, is_dash, hex_bytes, color_field, source_field, formats, programs, uniform_kinds, modes, destinations, attributes, component_types, word_in, skip_piece, attribute_piece, in_part, part_of_pieces, part_field, split_at}
use Rattle.scene_model.specs.Grammar.{Field}
use Rattle.scene_model.proofs.SplitLaws.{is_free_of, split-found, split-none}
use Rattle.scene_model.proofs.NumberTexts.{decimal-value, decimal-numeral, decimal-free}
use Rattle.spelling_model.specs.FieldSpelling as spell
use Rattle.spelling_model.specs.FieldSpelling.{hex_digit, hex_pair, hex_field, color_spelled, source_spelled, part_spelled, attribute_word, component_word}
use Rattle.spelling_model.specs.Readable.{AreBytes, IsColor, IsInteger, IsSource, IsPart}
use Rattle.spelling_model.proofs.Numbers.{pos_small, neg_small}

-- the first reading succeeds
pub goes_on : {A B : Type 0} (m : Read A) (x : A) (f : A → Read B) → m ≡ Ok x → (m >>= f) ≡ f x
goes_on m x f e = ap (λ k. k >>= f) e

-- ---- numbers

within : (low high n : ℕ) → low ≤ n → n ≤ high → in_range low high n ≡ Ok n
within low high n a b = rw (le-leb low n a, le-leb n high b) refl

pub number_again : (low high n : ℕ) → low ≤ n → n ≤ high → n < 2 ^ 64 → number_in low high (decimal n) ≡ Ok n
number_again low high n a b small =
    let own : natural (decimal n) ≡ Ok n = ap (λ t. cond t (Ok (value_onto 0 (decimal n))) (Err no_number)) (decimal-numeral n small) ∙ ap (λ k. Ok k) (decimal-value n small) in
    goes_on (natural (decimal n)) n (in_range low high) own ∙ within low high n a b

pub u8_again : (n : ℕ) → n ≤ 255 → number_in 0 255 (decimal n) ≡ Ok n
u8_again n h = number_again 0 255 n (omega arith) h (omega (arith, h))

pub u16_again : (n : ℕ) → n ≤ 65535 → number_in 0 65535 (decimal n) ≡ Ok n
u16_again n h = number_again 0 65535 n (omega arith) h (omega (arith, h))

pub u32_again : (n : ℕ) → n < 2 ^ 32 → number_in 0 4294967295 (decimal n) ≡ Ok n
u32_again n h = number_again 0 4294967295 n (omega arith) (omega (arith, h)) (omega (arith, h))

pub u64_again : (n : ℕ) → n < 2 ^ 64 → number_in 0 (2 ^ 64 - 1) (decimal n) ≡ Ok n
u64_again n h = number_again 0 18446744073709551615 n (omega arith) (omega (arith, h)) h

in_i32 : (z : ℤ) → IsInteger z → i32_in_range z ≡ Ok z
in_i32 z h = rw (h.0, h.1) refl

no_numeral : (xs : List ℕ) → is_numeral (45 ∷ xs) ≡ false
no_numeral [] = refl
no_numeral (x ∷ xs) = refl

same_first : (xs : List ℕ) → 0 < length xs → slice_index_or xs 0 48 ≡ get_or xs 0 0
same_first [] h = absurd (omega (arith, h))
same_first (x ∷ xs) h = refl

negative_numeral : (n : ℕ) → suc n < 2 ^ 64 → is_negative_numeral (45 ∷ decimal (suc n)) ≡ true
negative_numeral n small =
    let first = first_decimal (suc n) (omega arith) small in
    let same = same_first (decimal (suc n)) (decimal_nonempty (suc n) small) in
    let other : (slice_index_or (decimal (suc n)) 0 48 == 48) ≡ false = ne_eqb (slice_index_or (decimal (suc n)) 0 48) 48 (λ e. omega (arith, e, same, first)) in
    rw (decimal-numeral (suc n) small, other) refl

pub integer_again : (z : ℤ) → IsInteger z → integer (signed_decimal z) ≡ Ok z
integer_again (pos n) h =
    let small = pos_small n h.1 in
    rw (decimal-numeral n small, decimal-value n small) refl
integer_again (negsuc n) h =
    let small : suc n < 2 ^ 64 = neg_small (suc n) h.0 in
    rw (no_numeral (decimal (suc n)), negative_numeral n small, decimal-value (suc n) small) refl

pub i32_again : (z : ℤ) → IsInteger z → i32_number (signed_decimal z) ≡ Ok z
unfolding i32_number
i32_again z h = goes_on (integer (signed_decimal z)) z i32_in_range (integer_again z h) ∙ in_i32 z h

-- readings of several fields
pub all_again : {A : Type 0} (P : A → Type 0) (read : Field → Read A) (spelled : A → Field) → ((x : A) → P x → read (spelled x) ≡ Ok x) → (xs : List A) → AllByRecursion P xs → read_all read (map spelled xs) ≡ Ok xs
all_again P read spelled one [] h = refl
all_again P read spelled one (x ∷ xs) h =
    goes_on (read (spelled x)) x _ (one x h.0) ∙ goes_on (read_all read (map spelled xs)) xs _ (all_again P read spelled one xs h.1)

-- ---- bytes

digit_again : (v : ℕ) → v < 16 → hex_value (hex_digit v) ≡ Some v
unfolding hex_value
digit_again v h = by (nat_lt v 10) refl
  where
    by : (t : Bool) → nat_lt v 10 ≡ t → hex_value (cond t (48 + v) (87 + v)) ≡ Some v
    by true e =
        let digit : is_digit (48 + v) ≡ true = grind (arith, nat_tests, e) in
        let back : 48 + v - 48 ≡ v = omega arith in
        rw (digit, back) refl
    by false e =
        let digit : is_digit (87 + v) ≡ false = grind (arith, nat_tests, e) in
        let low : leb 97 (87 + v) ≡ true = grind (arith, nat_tests, e) in
        let high : leb (87 + v) 102 ≡ true = grind (arith, nat_tests, h) in
        let back : 87 + v - 87 ≡ v = omega arith in
        rw (digit, low, high, back) refl

pub byte_again : (b : ℕ) → b ≤ 255 → hex_byte (hex_digit (b / 16)) (hex_digit (b % 16)) ≡ Ok b
unfolding hex_byte
byte_again b h =
    let high : b / 16 < 16 = omega (arith, h) in
    let low : b % 16 < 16 = omega (arith, h) in
    let back : b / 16 * 16 + b % 16 ≡ b = omega arith in
    rw (digit_again (b / 16) high, digit_again (b % 16) low) (ap (λ n. Ok n) back)

pub pairs_again : (bytes : List ℕ) → AreBytes bytes → hex_pairs (flat_map hex_pair bytes) ≡ Ok bytes
pairs_again [] h = refl
pairs_again (b ∷ bytes) h =
    goes_on (hex_byte (hex_digit (b / 16)) (hex_digit (b % 16))) b _ (byte_again b h.0) ∙ goes_on (hex_pairs (flat_map hex_pair bytes)) bytes _ (pairs_again bytes h.1)

long_no_dash : (a b : ℕ) (xs : List ℕ) → is_dash (a ∷ b ∷ xs) ≡ false
long_no_dash a b xs = by (a == 45)
  where
    by : (t : Bool) → (t && false) ≡ false
    by true = refl
    by false = refl

pub hex_again : (bytes : List ℕ) → AreBytes bytes → hex_bytes (hex_field bytes) ≡ Ok bytes
hex_again [] h = refl
hex_again (b ∷ bytes) h =
    let f = flat_map hex_pair (b ∷ bytes) in
    let long : (length f == 0) ≡ false = ne_eqb (length f) 0 (λ e. omega (arith, e)) in
    rw (long_no_dash (hex_digit (b / 16)) (hex_digit (b % 16)) (flat_map hex_pair bytes), long) (pairs_again (b ∷ bytes) h)

color_of : (r g b a : ℕ) → r ≤ 255 → g ≤ 255 → b ≤ 255 → a ≤ 255 → color_field (color_spelled (r ∷ g ∷ b ∷ a ∷ [])) ≡ Ok (r ∷ g ∷ b ∷ a ∷ [])
color_of r g b a p q s t =
    goes_on (hex_byte (hex_digit (r / 16)) (hex_digit (r % 16))) r _ (byte_again r p)
    ∙ goes_on (hex_byte (hex_digit (g / 16)) (hex_digit (g % 16))) g _ (byte_again g q)
    ∙ goes_on (hex_byte (hex_digit (b / 16)) (hex_digit (b % 16))) b _ (byte_again b s)
    ∙ goes_on (hex_byte (hex_digit (a / 16)) (hex_digit (a % 16))) a _ (byte_again a t)

pub color_again : (c : Color) → IsColor c → color_field (color_spelled c) ≡ Ok c
color_again (r ∷ g ∷ b ∷ a ∷ []) h = color_of r g b a h.1.0 h.1.1.0 h.1.1.1.0 h.1.1.1.1.0
color_again [] h = absurd (omega (arith, h.0))
color_again (r ∷ []) h = absurd (omega (arith, h.0))
color_again (r ∷ g ∷ []) h = absurd (omega (arith, h.0))
color_again (r ∷ g ∷ b ∷ []) h = absurd (omega (arith, h.0))
color_again (r ∷ g ∷ b ∷ a ∷ c ∷ rest) h = absurd (omega (arith, h.0))

pub source_again : (s : TexelSource) → IsSource s → source_field (source_spelled s) ≡ Ok s
source_again (fill_source c) h = goes_on (color_field (color_spelled c)) c _ (color_again c h)
source_again (bytes_source bytes) h = goes_on (hex_bytes (hex_field bytes)) bytes _ (hex_again bytes h)

-- ---- words

pub format_again : (x : Format) → word_in formats (spell.format_word x) ≡ Ok x
unfolding word_in
format_again rgba8 = refl
format_again d24s8 = refl

pub program_again : (x : ProgramKind) → word_in programs (spell.program_word x) ≡ Ok x
unfolding word_in
program_again solid = refl
program_again vertex_color = refl
program_again textured = refl
program_again textured_color = refl

pub kind_again : (x : UniformKind) → word_in uniform_kinds (spell.uniform_kind_word x) ≡ Ok x
unfolding word_in
kind_again vec4 = refl
kind_again int = refl

pub mode_again : (x : ViewMode) → word_in modes (spell.mode_word x) ≡ Ok x
unfolding word_in
mode_again default_mode = refl
mode_again sequential_mode = refl
mode_again ascending_mode = refl
mode_again descending_mode = refl

pub destination_again : (x : Bool) → word_in destinations (spell.destination_word x) ≡ Ok x
unfolding word_in
destination_again true = refl
destination_again false = refl

attribute_again : (x : Attribute) → word_in attributes (attribute_word x) ≡ Ok x
unfolding word_in
attribute_again position_attribute = refl
attribute_again normal_attribute = refl
attribute_again tangent_attribute = refl
attribute_again color0_attribute = refl
attribute_again color1_attribute = refl
attribute_again texcoord0_attribute = refl
attribute_again texcoord1_attribute = refl

component_again : (x : ComponentType) → word_in component_types (component_word x) ≡ Ok x
unfolding word_in
component_again u8_type = refl
component_again i16_type = refl
component_again fixed_type = refl

-- ---- parts of a layout

attribute_free : (x : Attribute) → is_free_of 58 (attribute_word x) ≡ true
attribute_free position_attribute = refl
attribute_free normal_attribute = refl
attribute_free tangent_attribute = refl
attribute_free color0_attribute = refl
attribute_free color1_attribute = refl
attribute_free texcoord0_attribute = refl
attribute_free texcoord1_attribute = refl

component_free : (x : ComponentType) → is_free_of 58 (component_word x) ≡ true
component_free u8_type = refl
component_free i16_type = refl
component_free fixed_type = refl

skip_pieces : (n : ℕ) → n < 2 ^ 64 → split_at 58 (part_spelled (skip_part n)) ≡ codes "skip" ∷ decimal n ∷ []
skip_pieces n small = split-found 58 (codes "skip") (decimal n) refl ∙ ap (λ k. codes "skip" ∷ k) (split-none 58 (decimal n) (decimal-free 58 n refl small))

attribute_pieces : (a : Attribute) (t : ComponentType) (n : ℕ) → n < 2 ^ 64 → split_at 58 (part_spelled (attribute_part a t n)) ≡ attribute_word a ∷ component_word t ∷ decimal n ∷ []
attribute_pieces a t n small =
    split-found 58 (attribute_word a) (component_word t ++ 58 ∷ decimal n) (attribute_free a)
    ∙ ap (λ k. attribute_word a ∷ k) (split-found 58 (component_word t) (decimal n) (component_free t) ∙ ap (λ k. component_word t ∷ k) (split-none 58 (decimal n) (decimal-free 58 n refl small)))

pub part_again : (p : LayoutPart) → IsPart p → part_field (part_spelled p) ≡ Ok p
unfolding part_field skip_piece attribute_piece
part_again (skip_part n) h =
    ap (λ ps. in_part (part_of_pieces ps)) (skip_pieces n (omega (arith, h.1))) ∙ ap in_part (goes_on (number_in 1 255 (decimal n)) n _ (number_again 1 255 n h.0 h.1 (omega (arith, h.1))))
part_again (attribute_part a t n) h =
    ap (λ ps. in_part (part_of_pieces ps)) (attribute_pieces a t n (omega (arith, h.1)))
    ∙ ap in_part (goes_on (word_in attributes (attribute_word a)) a _ (attribute_again a) ∙ goes_on (word_in component_types (component_word t)) t _ (component_again t)
    ∙ goes_on (number_in 1 4 (decimal n)) n _ (number_again 1 4 n h.0 h.1 (omega (arith, h.1))))
