-- What is spelled of a line in its ranges has fields of visible characters.
use Rattle.std.proofs.Common.{◌≡◌, inl, inr, ℕ, suc, ◌+◌, ◌/◌, ◌%◌, ◌^◌, ◌<◌, ◌≤◌, nat_lt, leb, Bool, true, false, ◌&&◌, cond, List, [], ◌∷◌, ◌++◌, map, length, length-append, Option, Some, None, refl, subst, ◌∙◌, arith}
use Rattle.std.specs.Prelude.{codes, flat_map, ℤ, pos, negsuc}
use Rattle.std.specs.List.{list_all, AllByRecursion}
use Rattle.std.specs.Fmt.{decimal, signed_decimal}
use Rattle.std.proofs.lemmas.Bool.Decides.{nat_tests}
use Rattle.std.proofs.lemmas.Fmt.{decimal_nonempty}
use Rattle.std.proofs.lemmas.List.Folds.{list_all-append}
use Rattle.gfx_model.specs.Words.{Format, rgba8, d24s8, ProgramKind, solid, vertex_color, textured, textured_color, UniformKind, vec4, int, UniformValue, vec4_value, int_value}
use Rattle.gfx_model.specs.Vertex.{Color, Attribute, position_attribute, normal_attribute, tangent_attribute, color0_attribute, color1_attribute, texcoord0_attribute, texcoord1_attribute, ComponentType, u8_type, i16_type, fixed_type, LayoutPart, attribute_part, skip_part}
use Rattle.gfx_model.specs.Views.{ViewMode, default_mode, sequential_mode, ascending_mode, descending_mode, rect_change, scissor_change, clear_change, mode_change, transform_change, plain_change}
use Rattle.gfx_model.specs.Raster.{Affine, Rect}
use Rattle.gfx_model.specs.Resources.{TexelSource, fill_source, bytes_source}
use Rattle.scene_model.specs.Scene.{ResourceLine, layout_line, vertex_buffer_line, index_buffer_line, texture_line, frame_buffer_line, program_line, uniform_line, update_line, texel_update_line, destroy_line, view_line, target_line, order_line, EncoderLine, state_line, stencil_line, scissor_line, transform_line, vertices_line, indices_line, transient_vertices_line, transient_indices_line, bind_line, set_line, submit_line, touch_line, blit_line}
use Rattle.scene_model.specs.Field.{is_digit, is_lower, is_name_byte, is_name}
use Rattle.scene_model.specs.Grammar.{Field, is_empty_field}
use Rattle.scene_model.proofs.NumberTexts.{decimal-digits}
use Rattle.spelling_model.specs.FieldSpelling.{format_word, program_word, uniform_kind_word, mode_word, destination_word, attribute_word, component_word, hex_digit, hex_pair, hex_field, color_spelled, source_spelled, part_spelled, name_at, optional_name_at}
use Rattle.spelling_model.specs.LineSpelling.{rect_spelled, clear_spelled, view_spelled, value_spelled, resource_fields, encoder_fields}
use Rattle.spelling_model.specs.Readable.{AreBytes, IsColor, IsInteger, IsTransform, IsRect, IsValue, IsSource, IsPart, IsBound, IsBoundOrNone, IsOfUniform, bound_by, IsResourceLine, IsEncoderLine}
use Rattle.spelling_model.proofs.Read.{both}
use Rattle.spelling_model.proofs.NameRanges.{not_below}
use Rattle.spelling_model.proofs.Numbers.{pos_small, neg_small}
use Rattle.spelling_model.proofs.NamesAgain.{HasNames, is_named, got_in}

abbrev pub is_visible : ℕ → Bool
is_visible b = leb 33 b && leb b 126

-- visible characters, at least one
abbrev pub IsSpelled : Field → Type 0
IsSpelled f = (list_all is_visible f ≡ true) × (is_empty_field f ≡ false)

pub weaker : (p q : ℕ → Bool) → ((b : ℕ) → p b ≡ true → q b ≡ true) → (xs : List ℕ) → list_all p xs ≡ true → list_all q xs ≡ true
weaker p q k [] h = refl
weaker p q k (x ∷ xs) h = let t = both (p x) (list_all p xs) h in rw (k x t.0) (weaker p q k xs t.1)

two_visible : (f g : Field) → list_all is_visible f ≡ true → list_all is_visible g ≡ true → list_all is_visible (f ++ g) ≡ true
two_visible f g h k = list_all-append is_visible f g ∙ rw h k

some_field : (f : Field) → 0 < length f → is_empty_field f ≡ false
some_field [] h = absurd (omega (arith, h))
some_field (b ∷ f) h = refl

-- ---- numbers

digit_visible : (b : ℕ) → is_digit b ≡ true → is_visible b ≡ true
digit_visible b h = grind (arith, nat_tests, h)

pub decimal_spelled : (n : ℕ) → n < 2 ^ 64 → IsSpelled (decimal n)
decimal_spelled n small = (weaker is_digit is_visible digit_visible (decimal n) (decimal-digits n small), some_field (decimal n) (decimal_nonempty n small))

pub u8_spelled : (n : ℕ) → n ≤ 255 → IsSpelled (decimal n)
u8_spelled n h = decimal_spelled n (omega (arith, h))

pub u16_spelled : (n : ℕ) → n ≤ 65535 → IsSpelled (decimal n)
u16_spelled n h = decimal_spelled n (omega (arith, h))

pub u32_spelled : (n : ℕ) → n < 2 ^ 32 → IsSpelled (decimal n)
u32_spelled n h = decimal_spelled n (omega (arith, h))

integer_spelled : (z : ℤ) → IsInteger z → IsSpelled (signed_decimal z)
integer_spelled (pos n) h = decimal_spelled n (pos_small n h.1)
integer_spelled (negsuc n) h = ((decimal_spelled (suc n) (neg_small (suc n) h.0)).0, refl)

pub all_spelled : {A : Type 0} (P : A → Type 0) (spelled : A → Field) → ((x : A) → P x → IsSpelled (spelled x)) → (xs : List A) → AllByRecursion P xs → AllByRecursion IsSpelled (map spelled xs)
all_spelled P spelled one [] h = tt
all_spelled P spelled one (x ∷ xs) h = (one x h.0, all_spelled P spelled one xs h.1)

-- ---- bytes

hex_visible : (v : ℕ) → v < 16 → is_visible (hex_digit v) ≡ true
hex_visible v h = by (nat_lt v 10) refl
  where
    by : (t : Bool) → nat_lt v 10 ≡ t → is_visible (cond t (48 + v) (87 + v)) ≡ true
    by true e = grind (arith, nat_tests, h)
    by false e = grind (arith, nat_tests, h)

pairs_visible : (bytes : List ℕ) → AreBytes bytes → list_all is_visible (flat_map hex_pair bytes) ≡ true
pairs_visible [] h = refl
pairs_visible (b ∷ bytes) h =
    let k = h.0 in
    let high : b / 16 < 16 = omega (arith, k) in
    let low : b % 16 < 16 = omega (arith, k) in
    rw (hex_visible (b / 16) high, hex_visible (b % 16) low) (pairs_visible bytes h.1)

hex_spelled : (bytes : List ℕ) → AreBytes bytes → IsSpelled (hex_field bytes)
hex_spelled [] h = (refl, refl)
hex_spelled (b ∷ bytes) h = (pairs_visible (b ∷ bytes) h, refl)

color_is_spelled : (c : Color) → IsColor c → IsSpelled (color_spelled c)
color_is_spelled [] h = absurd (omega (arith, h.0))
color_is_spelled (b ∷ c) h = (pairs_visible (b ∷ c) h.1, refl)

source_is_spelled : (s : TexelSource) → IsSource s → IsSpelled (source_spelled s)
source_is_spelled (fill_source c) h = (two_visible (codes "fill:") (color_spelled c) refl (color_is_spelled c h).0, refl)
source_is_spelled (bytes_source bytes) h = (two_visible (codes "hex:") (hex_field bytes) refl (hex_spelled bytes h).0, refl)

-- ---- words and parts

format_spelled : (x : Format) → IsSpelled (format_word x)
format_spelled rgba8 = (refl, refl)
format_spelled d24s8 = (refl, refl)

program_spelled : (x : ProgramKind) → IsSpelled (program_word x)
program_spelled solid = (refl, refl)
program_spelled vertex_color = (refl, refl)
program_spelled textured = (refl, refl)
program_spelled textured_color = (refl, refl)

kind_spelled : (x : UniformKind) → IsSpelled (uniform_kind_word x)
kind_spelled vec4 = (refl, refl)
kind_spelled int = (refl, refl)

mode_spelled : (x : ViewMode) → IsSpelled (mode_word x)
mode_spelled default_mode = (refl, refl)
mode_spelled sequential_mode = (refl, refl)
mode_spelled ascending_mode = (refl, refl)
mode_spelled descending_mode = (refl, refl)

destination_spelled : (x : Bool) → IsSpelled (destination_word x)
destination_spelled true = (refl, refl)
destination_spelled false = (refl, refl)

attribute_spelled : (x : Attribute) → IsSpelled (attribute_word x)
attribute_spelled position_attribute = (refl, refl)
attribute_spelled normal_attribute = (refl, refl)
attribute_spelled tangent_attribute = (refl, refl)
attribute_spelled color0_attribute = (refl, refl)
attribute_spelled color1_attribute = (refl, refl)
attribute_spelled texcoord0_attribute = (refl, refl)
attribute_spelled texcoord1_attribute = (refl, refl)

component_spelled : (x : ComponentType) → IsSpelled (component_word x)
component_spelled u8_type = (refl, refl)
component_spelled i16_type = (refl, refl)
component_spelled fixed_type = (refl, refl)

longer : (f g : Field) → is_empty_field f ≡ false → is_empty_field (f ++ g) ≡ false
longer [] g h = absurd (cc h)
longer (b ∷ f) g h = refl

part_is_spelled : (p : LayoutPart) → IsPart p → IsSpelled (part_spelled p)
part_is_spelled (skip_part n) h = (two_visible (codes "skip:") (decimal n) refl (decimal_spelled n (omega (arith, h.1))).0, refl)
part_is_spelled (attribute_part a t n) h =
    let a_spelled = attribute_spelled a in
    let number = two_visible (codes ":") (decimal n) refl (decimal_spelled n (omega (arith, h.1))).0 in
    let component = two_visible (codes ":") (component_word t ++ 58 ∷ decimal n) refl (two_visible (component_word t) (58 ∷ decimal n) (component_spelled t).0 number) in
    (two_visible (attribute_word a) (58 ∷ (component_word t ++ 58 ∷ decimal n)) a_spelled.0 component, longer (attribute_word a) (58 ∷ (component_word t ++ 58 ∷ decimal n)) a_spelled.1)

-- ---- names

name_visible : (b : ℕ) → is_name_byte b ≡ true → is_visible b ≡ true
name_visible b h = grind (arith, nat_tests, h)

lower_visible : (b : ℕ) → is_lower b ≡ true → is_visible b ≡ true
lower_visible b h = grind (arith, nat_tests, h)

name_is_spelled : (f : Field) → is_name f ≡ true → IsSpelled f
name_is_spelled [] h = absurd (cc h)
name_is_spelled (b ∷ f) h =
    let p = both (is_lower b && list_all is_name_byte f) (leb (length f) 31) h in
    let q = both (is_lower b) (list_all is_name_byte f) p.0 in
    (rw (lower_visible b q.0) (weaker is_name_byte is_visible name_visible f q.1), refl)

name_spelled : (all : List Field) (n : ℕ) → HasNames all → n < length all → IsSpelled (name_at all n)
name_spelled all n h lt = name_is_spelled (name_at all n) (is_named all n h lt)

used_spelled : (all : List Field) (bound : List Bool) (n : ℕ) → HasNames all → length bound ≤ length all → IsBound bound n → IsSpelled (name_at all n)
used_spelled all bound n h le lt = name_spelled all n h (omega (arith, le, lt))

optional_spelled : (all : List Field) (bound : List Bool) (o : Option ℕ) → HasNames all → length bound ≤ length all → IsBoundOrNone bound o → IsSpelled (optional_name_at all o)
optional_spelled all bound None h le k = (refl, refl)
optional_spelled all bound (Some n) h le k = used_spelled all bound n h le k

new_spelled : (all : List Field) (bound : List Bool) (n : ℕ) → HasNames all → length (bound ++ false ∷ []) ≤ length all → n ≡ length bound → IsSpelled (name_at all n)
new_spelled all bound n h grown e = name_spelled all n h (omega (arith, grown, e, length-append bound (false ∷ [])))

uniform_new : (all : List Field) (bound : List Bool) (n : ℕ) (kind : UniformKind) → length (bound_by bound (uniform_line n kind)) ≤ length all → n ≡ length bound → n < length all
uniform_new all bound n kind grown e =
    let longer = subst (λ t. length (cond t bound (bound ++ true ∷ [])) ≤ length all) (not_below n (length bound) e) grown in
    omega (arith, longer, e, length-append bound (true ∷ []))

uniform_spelled : (all : List Field) (bound : List Bool) (n : ℕ) (kind : UniformKind) → HasNames all → length bound ≤ length all → length (bound_by bound (uniform_line n kind)) ≤ length all → IsOfUniform bound n → IsSpelled (name_at all n)
uniform_spelled all bound n kind h le grown (inl e) = name_spelled all n h (uniform_new all bound n kind grown e)
uniform_spelled all bound n kind h le grown (inr e) = let lt = got_in bound n e in name_spelled all n h (omega (arith, lt, le))

-- ---- several fields

rect_is_spelled : (r : Rect) (rest : List Field) → IsRect r → AllByRecursion IsSpelled rest → AllByRecursion IsSpelled (rect_spelled r ++ rest)
rect_is_spelled r rest h k = (u16_spelled r.x h.0, (u16_spelled r.y h.1, (u16_spelled r.w h.2, (u16_spelled r.h h.3, k))))

transform_spelled : (m : Affine) → IsTransform m → AllByRecursion IsSpelled (map signed_decimal m)
transform_spelled m h = all_spelled IsInteger signed_decimal integer_spelled m h.1

value_is_spelled : (v : UniformValue) → IsValue v → AllByRecursion IsSpelled (value_spelled v)
value_is_spelled (int_value z) h = (integer_spelled z h, tt)
value_is_spelled (vec4_value zs) h = all_spelled IsInteger signed_decimal integer_spelled zs h.1

abbrev SpelledLine : List Field → ResourceLine → Type 0
SpelledLine all l = AllByRecursion IsSpelled (resource_fields all l)

view_is_spelled : (v : ℕ) (setting : Field) (values : List Field) → v ≤ 65535 → IsSpelled setting → AllByRecursion IsSpelled values → AllByRecursion IsSpelled (view_spelled v setting values)
view_is_spelled v setting values h k rest = ((refl, refl), (u16_spelled v h, (k, rest)))

pub resource_spelled : (views : ℕ) (all : List Field) (bound : List Bool) (l : ResourceLine) → HasNames all → length bound ≤ length all → length (bound_by bound l) ≤ length all → IsResourceLine views bound l → SpelledLine all l
resource_spelled views all bound (layout_line n parts) h le grown k = ((refl, refl), (new_spelled all bound n h grown k.0, all_spelled IsPart part_spelled part_is_spelled parts k.3))
resource_spelled views all bound (vertex_buffer_line n layout bytes) h le grown k = ((refl, refl), (new_spelled all bound n h grown k.0, (used_spelled all bound layout h le k.1, (hex_spelled bytes k.2, tt))))
resource_spelled views all bound (index_buffer_line n bytes) h le grown k = ((refl, refl), (new_spelled all bound n h grown k.0, (hex_spelled bytes k.1, tt)))
resource_spelled views all bound (texture_line n width height format destination source) h le grown k =
    ((refl, refl), (new_spelled all bound n h grown k.0, (u16_spelled width k.1, (u16_spelled height k.2, (format_spelled format, (destination_spelled destination, (source_is_spelled source k.3, tt)))))))
resource_spelled views all bound (frame_buffer_line n color depth) h le grown k = ((refl, refl), (new_spelled all bound n h grown k.0, (used_spelled all bound color h le k.1, (optional_spelled all bound depth h le k.2, tt))))
resource_spelled views all bound (program_line n kind) h le grown k = ((refl, refl), (new_spelled all bound n h grown k, (program_spelled kind, tt)))
resource_spelled views all bound (uniform_line n kind) h le grown k = ((refl, refl), (uniform_spelled all bound n kind h le grown k, (kind_spelled kind, tt)))
resource_spelled views all bound (update_line n offset bytes) h le grown k = ((refl, refl), (used_spelled all bound n h le k.0, (u32_spelled offset k.1, (hex_spelled bytes k.2, tt))))
resource_spelled views all bound (texel_update_line n r bytes) h le grown k = ((refl, refl), (used_spelled all bound n h le k.0, rect_is_spelled r (hex_field bytes ∷ []) k.1 (hex_spelled bytes k.2, tt)))
resource_spelled views all bound (destroy_line n) h le grown k = ((refl, refl), (used_spelled all bound n h le k, tt))
resource_spelled views all bound (view_line view (rect_change r)) h le grown k = view_is_spelled view (codes "rect") (rect_spelled r) k.0 (refl, refl) (rect_is_spelled r [] k.1 tt)
resource_spelled views all bound (view_line view (scissor_change r)) h le grown k = view_is_spelled view (codes "scissor") (rect_spelled r) k.0 (refl, refl) (rect_is_spelled r [] k.1 tt)
resource_spelled views all bound (view_line view (clear_change c)) h le grown k =
    view_is_spelled view (codes "clear") (clear_spelled c) k.0 (refl, refl)
    (u8_spelled c.flags k.1.0, (color_is_spelled c.color k.1.1, ((let d = k.1.2 in decimal_spelled c.depth (omega (arith, d))), (u8_spelled c.stencil k.1.3, tt))))
resource_spelled views all bound (view_line view (mode_change mode)) h le grown k = view_is_spelled view (codes "mode") (mode_word mode ∷ []) k (refl, refl) (mode_spelled mode, tt)
resource_spelled views all bound (target_line view target) h le grown k = view_is_spelled view (codes "target") (optional_name_at all target ∷ []) k.0 (refl, refl) (optional_spelled all bound target h le k.1, tt)
resource_spelled views all bound (view_line view (transform_change m)) h le grown k = view_is_spelled view (codes "transform") (map signed_decimal m) k.0 (refl, refl) (transform_spelled m k.1)
resource_spelled views all bound (view_line view plain_change) h le grown k = view_is_spelled view (codes "reset") [] k (refl, refl) tt
resource_spelled views all bound (order_line ids) h le grown k = ((refl, refl), all_spelled (λ v. v ≤ 65535) decimal u16_spelled ids k.1)

pub encoder_spelled : (all : List Field) (bound : List Bool) (l : EncoderLine) → HasNames all → length bound ≤ length all → IsEncoderLine bound l → AllByRecursion IsSpelled (encoder_fields all l)
encoder_spelled all bound (state_line word) h le k = ((refl, refl), (decimal_spelled word k, tt))
encoder_spelled all bound (stencil_line front back) h le k = ((refl, refl), (u32_spelled front k.0, (u32_spelled back k.1, tt)))
encoder_spelled all bound (scissor_line r) h le k = ((refl, refl), rect_is_spelled r [] k tt)
encoder_spelled all bound (transform_line m) h le k = ((refl, refl), transform_spelled m k)
encoder_spelled all bound (vertices_line n first count) h le k = ((refl, refl), (used_spelled all bound n h le k.0, (u32_spelled first k.1, (u32_spelled count k.2, tt))))
encoder_spelled all bound (indices_line n first count) h le k = ((refl, refl), (used_spelled all bound n h le k.0, (u32_spelled first k.1, (u32_spelled count k.2, tt))))
encoder_spelled all bound (transient_vertices_line layout bytes) h le k = ((refl, refl), (used_spelled all bound layout h le k.0, (hex_spelled bytes k.1, tt)))
encoder_spelled all bound (transient_indices_line bytes) h le k = ((refl, refl), (hex_spelled bytes k, tt))
encoder_spelled all bound (bind_line stage texture) h le k = ((refl, refl), (u8_spelled stage k.0, (optional_spelled all bound texture h le k.1, tt)))
encoder_spelled all bound (set_line n value) h le k = ((refl, refl), (used_spelled all bound n h le k.0, value_is_spelled value k.1))
encoder_spelled all bound (submit_line view n depth flags) h le k = ((refl, refl), (u16_spelled view k.0, (used_spelled all bound n h le k.1, (u32_spelled depth k.2, (u8_spelled flags k.3, tt)))))
encoder_spelled all bound (touch_line view) h le k = ((refl, refl), (u16_spelled view k, tt))
encoder_spelled all bound (blit_line view destination dx dy source sx sy w h) names le k =
    ((refl, refl), (u16_spelled view k.0, (used_spelled all bound destination names le k.1, (u16_spelled dx k.2, (u16_spelled dy k.3, (used_spelled all bound source names le k.4, (u16_spelled sx k.5, (u16_spelled sy k.6, (u16_spelled w k.7, (u16_spelled h k.8, tt))))))))))
