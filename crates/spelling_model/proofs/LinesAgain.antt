-- What is spelled of a line in its ranges is read as that line.
use Rattle.std.proofs.Common.{◌≡◌, ℕ, ◌+◌, ◌-◌, ◌^◌, ◌<◌, ◌≤◌, Bool, true, false, not, List, [], ◌∷◌, ◌++◌, map, drop, length, length-append, Ok, refl, ap, ◌∙◌, arith}
use Rattle.std.specs.Prelude.{codes}
use Rattle.std.specs.List.{list_any, AllByRecursion}
use Rattle.std.specs.Fmt.{decimal, signed_decimal}
use Rattle.std.proofs.lemmas.Bool.{eq-eqb, le-leb}
use Rattle.std.proofs.lemmas.List.{length-map}
use Rattle.gfx_model.specs.Words.{UniformValue, vec4_value, int_value}
use Rattle.gfx_model.specs.Views.{Clear, rect_change, scissor_change, clear_change, mode_change, transform_change, plain_change}
use Rattle.gfx_model.specs.Raster.{Affine, Rect}
use Rattle.scene_model.specs.Scene.{ResourceLine, layout_line, vertex_buffer_line, index_buffer_line, texture_line, frame_buffer_line, program_line, uniform_line, update_line, texel_update_line, destroy_line, rect_line, view_scissor_line, clear_line, mode_line, target_line, view_transform_line, reset_line, order_line, EncoderLine, state_line, stencil_line, scissor_line, transform_line, vertices_line, indices_line, transient_vertices_line, transient_indices_line, bind_line, set_line, submit_line, touch_line, blit_line, view_line}
use Rattle.scene_model.specs.Field.{Read, ◌>>=◌, wrong_field_count, BoundName, number_to, u8_number, u16_number, u32_number, i32_number, read_all, word_in, formats, programs, uniform_kinds, modes, destinations, hex_bytes, color_field, source_field, part_field, used_name, optional_name, create_name}
use Rattle.scene_model.specs.Grammar.{Field, field, Named, Word, layout_word, vertex_buffer_word, index_buffer_word, texture_word, frame_buffer_word, program_word, uniform_word, update_word, texel_update_word, destroy_word, view_word, order_word, state_word, stencil_word, scissor_word, transform_word, vertices_word, indices_word, transient_vertices_word, transient_indices_word, bind_word, set_word, submit_word, touch_word, blit_word, unless, has_count, has_count_from, has_field, is_empty_field, are_filled, rect_fields, clear_fields, settings, setting_form, uniform_value_of, resource_form, encoder_form, whole_language}
use Rattle.spelling_model.specs.FieldSpelling as spell
use Rattle.spelling_model.specs.FieldSpelling.{format_word, uniform_kind_word, mode_word, destination_word, hex_field, color_spelled, source_spelled, part_spelled, name_at, optional_name_at}
use Rattle.spelling_model.specs.LineSpelling.{value_spelled, resource_fields, encoder_fields}
use Rattle.spelling_model.specs.Readable.{IsInteger, IsTransform, IsRect, IsClear, IsValue, IsPart, bound_by, IsResourceLine, IsEncoderLine}
use Rattle.spelling_model.proofs.FieldsAgain.{goes_on, number_again, u8_again, u16_again, u32_again, u64_again, i32_again, all_again, hex_again, color_again, source_again, format_again, program_again, kind_again, mode_again, destination_again, part_again}
use Rattle.spelling_model.proofs.NamesAgain.{named, HasNames, used_again, optional_again, create_again, uniform_again}
use Rattle.spelling_model.proofs.Spelled.{IsSpelled, u16_spelled}

-- ---- counts

count_again : (n : ℕ) (fs : List Field) → length fs ≡ n → has_count n fs ≡ Ok true
count_again n fs e = ap (λ t. unless t wrong_field_count) (eq-eqb (length fs) n e)

count_from_again : (low high : ℕ) (fs : List Field) → low ≤ length fs → length fs ≤ high → has_count_from low high fs ≡ Ok true
count_from_again low high fs a b = rw (le-leb low (length fs) a, le-leb (length fs) high b) refl

pub filled_again : (fs : List Field) → AllByRecursion IsSpelled fs → are_filled fs ≡ Ok true
filled_again fs h = ap (λ t. unless (not t) wrong_field_count) (none fs h)
  where
    none : (fs : List Field) → AllByRecursion IsSpelled fs → list_any is_empty_field fs ≡ false
    none [] h = refl
    none (f ∷ fs) h = rw h.0.1 (none fs h.1)

-- ---- several fields

rect_again : (fs : List Field) (k : ℕ) (r : Rect) → field fs k ≡ decimal r.x → field fs (k + 1) ≡ decimal r.y → field fs (k + 2) ≡ decimal r.w → field fs (k + 3) ≡ decimal r.h → IsRect r → rect_fields fs k ≡ Ok r
rect_again fs k r a b c d h =
    goes_on (u16_number (field fs k)) r.x _ (ap u16_number a ∙ u16_again r.x h.0)
    ∙ goes_on (u16_number (field fs (k + 1))) r.y _ (ap u16_number b ∙ u16_again r.y h.1)
    ∙ goes_on (u16_number (field fs (k + 2))) r.w _ (ap u16_number c ∙ u16_again r.w h.2)
    ∙ goes_on (u16_number (field fs (k + 3))) r.h _ (ap u16_number d ∙ u16_again r.h h.3)

transform_again : (m : Affine) → IsTransform m → read_all i32_number (map signed_decimal m) ≡ Ok m
transform_again m h = all_again IsInteger i32_number signed_decimal i32_again m h.1

clear_again : (c : Clear) (v : ℕ) → IsClear c → clear_fields (codes "view" ∷ decimal v ∷ codes "clear" ∷ decimal c.flags ∷ color_spelled c.color ∷ decimal c.depth ∷ decimal c.stencil ∷ []) ≡ Ok c
clear_again c v h =
    goes_on (u8_number (decimal c.flags)) c.flags _ (u8_again c.flags h.0)
    ∙ goes_on (color_field (color_spelled c.color)) c.color _ (color_again c.color h.1)
    ∙ goes_on (number_to 16777215 (decimal c.depth)) c.depth _ (let d = h.2 in number_again 0 16777215 c.depth (omega arith) d (omega (arith, d)))
    ∙ goes_on (u8_number (decimal c.stencil)) c.stencil _ (u8_again c.stencil h.3)

-- ---- resource lines

abbrev pub resource_word : ResourceLine → Word
resource_word (layout_line n parts) = layout_word
resource_word (vertex_buffer_line n layout bytes) = vertex_buffer_word
resource_word (index_buffer_line n bytes) = index_buffer_word
resource_word (texture_line n width height format destination source) = texture_word
resource_word (frame_buffer_line n color depth) = frame_buffer_word
resource_word (program_line n kind) = program_word
resource_word (uniform_line n kind) = uniform_word
resource_word (update_line n offset bytes) = update_word
resource_word (texel_update_line n r bytes) = texel_update_word
resource_word (destroy_line n) = destroy_word
resource_word (view_line view c) = view_word
resource_word (target_line view target) = view_word
resource_word (order_line ids) = order_word

-- a name more has room
more : (all : List Field) (bound : List Bool) (u : Bool) → length (bound ++ u ∷ []) ≤ length all → length bound < length all
more all bound u h = omega (arith, h, length-append bound (u ∷ []))

abbrev with_old : List BoundName → ResourceLine → Read (Named ResourceLine)
with_old names l = Ok (l, names)

-- a view line is read where its setting is
view_again : (names : List BoundName) (v : ℕ) (f : Field) (values : List Field) (l : ResourceLine) → v ≤ 65535 → are_filled (codes "view" ∷ decimal v ∷ f ∷ values) ≡ Ok true
    → (word_in settings f >>= λ s. are_filled (codes "view" ∷ decimal v ∷ f ∷ values) >>= λ _. setting_form names (codes "view" ∷ decimal v ∷ f ∷ values) v s >>= with_old names) ≡ Ok (l, names)
    → is_empty_field f ≡ false → resource_form whole_language 0 names (codes "view" ∷ decimal v ∷ f ∷ values) view_word ≡ Ok (l, names)
view_again names v f values l h filled rest some =
    goes_on (has_field 1 (codes "view" ∷ decimal v ∷ f ∷ values)) true _ (ap (λ t. unless (not t) wrong_field_count) (u16_spelled v h).1)
    ∙ goes_on (u16_number (decimal v)) v _ (u16_again v h)
    ∙ goes_on (has_field 2 (codes "view" ∷ decimal v ∷ f ∷ values)) true _ (ap (λ t. unless (not t) wrong_field_count) some)
    ∙ rest

-- behind the setting's word
set_again : (names : List BoundName) (v : ℕ) (f : Field) (values : List Field) (m : Read ResourceLine) (l : ResourceLine) → are_filled (codes "view" ∷ decimal v ∷ f ∷ values) ≡ Ok true → m ≡ Ok l
    → (are_filled (codes "view" ∷ decimal v ∷ f ∷ values) >>= λ _. m >>= with_old names) ≡ Ok (l, names)
set_again names v f values m l filled e = goes_on (are_filled (codes "view" ∷ decimal v ∷ f ∷ values)) true _ filled ∙ goes_on m l _ e

pub resource_again : (views : ℕ) (all : List Field) (bound : List Bool) (l : ResourceLine) → HasNames all → length bound ≤ length all → length (bound_by bound l) ≤ length all → AllByRecursion IsSpelled (resource_fields all l) → IsResourceLine views bound l
    → resource_form whole_language views (named all bound) (resource_fields all l) (resource_word l) ≡ Ok (l, named all (bound_by bound l))
unfolding word_in
resource_again views all bound (layout_line n parts) h le grown s k =
    let count = length-map parts part_spelled in
    goes_on (has_count_from 3 17 (codes "layout" ∷ name_at all n ∷ map part_spelled parts)) true _ (count_from_again 3 17 (codes "layout" ∷ name_at all n ∷ map part_spelled parts) (let a = k.1 in omega (arith, a, count)) (let b = k.2 in omega (arith, b, count)))
    ∙ goes_on (create_name (named all bound) false (name_at all n)) (n, named all (bound ++ false ∷ [])) _ (create_again all bound false n h (more all bound false grown) k.0)
    ∙ goes_on (read_all part_field (map part_spelled parts)) parts _ (all_again IsPart part_field part_spelled part_again parts k.3)
resource_again views all bound (vertex_buffer_line n layout bytes) h le grown s k =
    goes_on (create_name (named all bound) false (name_at all n)) (n, named all (bound ++ false ∷ [])) _ (create_again all bound false n h (more all bound false grown) k.0)
    ∙ goes_on (used_name (named all bound) (name_at all layout)) layout _ (used_again all bound layout h le k.1)
    ∙ goes_on (hex_bytes (hex_field bytes)) bytes _ (hex_again bytes k.2)
resource_again views all bound (index_buffer_line n bytes) h le grown s k =
    goes_on (create_name (named all bound) false (name_at all n)) (n, named all (bound ++ false ∷ [])) _ (create_again all bound false n h (more all bound false grown) k.0)
    ∙ goes_on (hex_bytes (hex_field bytes)) bytes _ (hex_again bytes k.1)
resource_again views all bound (texture_line n width height format destination source) h le grown s k =
    goes_on (create_name (named all bound) false (name_at all n)) (n, named all (bound ++ false ∷ [])) _ (create_again all bound false n h (more all bound false grown) k.0)
    ∙ goes_on (u16_number (decimal width)) width _ (u16_again width k.1)
    ∙ goes_on (u16_number (decimal height)) height _ (u16_again height k.2)
    ∙ goes_on (word_in formats (format_word format)) format _ (format_again format)
    ∙ goes_on (word_in destinations (destination_word destination)) destination _ (destination_again destination)
    ∙ goes_on (source_field (source_spelled source)) source _ (source_again source k.3)
resource_again views all bound (frame_buffer_line n color depth) h le grown s k =
    goes_on (create_name (named all bound) false (name_at all n)) (n, named all (bound ++ false ∷ [])) _ (create_again all bound false n h (more all bound false grown) k.0)
    ∙ goes_on (used_name (named all bound) (name_at all color)) color _ (used_again all bound color h le k.1)
    ∙ goes_on (optional_name (named all bound) (optional_name_at all depth)) depth _ (optional_again all bound depth h le k.2)
resource_again views all bound (program_line n kind) h le grown s k =
    goes_on (create_name (named all bound) false (name_at all n)) (n, named all (bound ++ false ∷ [])) _ (create_again all bound false n h (more all bound false grown) k)
    ∙ goes_on (word_in programs (spell.program_word kind)) kind _ (program_again kind)
resource_again views all bound (uniform_line n kind) h le grown s k =
    goes_on (create_name (named all bound) true (name_at all n)) (n, named all (bound_by bound (uniform_line n kind))) _ (uniform_again all bound n kind h grown le k)
    ∙ goes_on (word_in uniform_kinds (uniform_kind_word kind)) kind _ (kind_again kind)
resource_again views all bound (update_line n offset bytes) h le grown s k =
    goes_on (used_name (named all bound) (name_at all n)) n _ (used_again all bound n h le k.0)
    ∙ goes_on (u32_number (decimal offset)) offset _ (u32_again offset k.1)
    ∙ goes_on (hex_bytes (hex_field bytes)) bytes _ (hex_again bytes k.2)
resource_again views all bound (texel_update_line n r bytes) h le grown s k =
    goes_on (used_name (named all bound) (name_at all n)) n _ (used_again all bound n h le k.0)
    ∙ goes_on (rect_fields (resource_fields all (texel_update_line n r bytes)) 2) r _ (rect_again (resource_fields all (texel_update_line n r bytes)) 2 r refl refl refl refl k.1)
    ∙ goes_on (hex_bytes (hex_field bytes)) bytes _ (hex_again bytes k.2)
resource_again views all bound (destroy_line n) h le grown s k = goes_on (used_name (named all bound) (name_at all n)) n _ (used_again all bound n h le k)
resource_again views all bound (view_line view (rect_change r)) h le grown s k =
    let fs = resource_fields all (rect_line view r) in
    let filled = filled_again fs s in
    view_again (named all bound) view (codes "rect") (drop 3 fs) (rect_line view r) k.0 filled (set_again (named all bound) view (codes "rect") (drop 3 fs) _ (rect_line view r) filled (goes_on (rect_fields fs 3) r _ (rect_again fs 3 r refl refl refl refl k.1))) refl
resource_again views all bound (view_line view (scissor_change r)) h le grown s k =
    let fs = resource_fields all (view_scissor_line view r) in
    let filled = filled_again fs s in
    view_again (named all bound) view (codes "scissor") (drop 3 fs) (view_scissor_line view r) k.0 filled (set_again (named all bound) view (codes "scissor") (drop 3 fs) _ (view_scissor_line view r) filled (goes_on (rect_fields fs 3) r _ (rect_again fs 3 r refl refl refl refl k.1))) refl
resource_again views all bound (view_line view (clear_change c)) h le grown s k =
    let fs = resource_fields all (clear_line view c) in
    let filled = filled_again fs s in
    view_again (named all bound) view (codes "clear") (drop 3 fs) (clear_line view c) k.0 filled (set_again (named all bound) view (codes "clear") (drop 3 fs) _ (clear_line view c) filled (goes_on (clear_fields fs) c _ (clear_again c view k.1))) refl
resource_again views all bound (view_line view (mode_change mode)) h le grown s k =
    let fs = resource_fields all (mode_line view mode) in
    let filled = filled_again fs s in
    view_again (named all bound) view (codes "mode") (drop 3 fs) (mode_line view mode) k filled (set_again (named all bound) view (codes "mode") (drop 3 fs) _ (mode_line view mode) filled (goes_on (word_in modes (mode_word mode)) mode _ (mode_again mode))) refl
resource_again views all bound (target_line view target) h le grown s k =
    let fs = resource_fields all (target_line view target) in
    let filled = filled_again fs s in
    view_again (named all bound) view (codes "target") (drop 3 fs) (target_line view target) k.0 filled
    (set_again (named all bound) view (codes "target") (drop 3 fs) _ (target_line view target) filled (goes_on (optional_name (named all bound) (optional_name_at all target)) target _ (optional_again all bound target h le k.1))) refl
resource_again views all bound (view_line view (transform_change m)) h le grown s k =
    let fs = resource_fields all (view_transform_line view m) in
    let filled = filled_again fs s in
    let count : length fs ≡ 15 = omega (arith, length-map m signed_decimal, k.1.0) in
    view_again (named all bound) view (codes "transform") (drop 3 fs) (view_transform_line view m) k.0 filled
    (set_again (named all bound) view (codes "transform") (drop 3 fs) _ (view_transform_line view m) filled (goes_on (has_count 15 fs) true _ (count_again 15 fs count) ∙ goes_on (read_all i32_number (map signed_decimal m)) m _ (transform_again m k.1))) refl
resource_again views all bound (view_line view plain_change) h le grown s k =
    let fs = resource_fields all (reset_line view) in
    let filled = filled_again fs s in
    view_again (named all bound) view (codes "reset") (drop 3 fs) (reset_line view) k filled (set_again (named all bound) view (codes "reset") (drop 3 fs) _ (reset_line view) filled refl) refl
resource_again views all bound (order_line ids) h le grown s k =
    let fs = codes "order" ∷ map decimal ids in
    let count = length-map ids decimal in
    goes_on (has_count_from 1 (1 + views) fs) true _ (count_from_again 1 (1 + views) fs (omega arith) (let a = k.0 in omega (arith, a, count)))
    ∙ goes_on (read_all u16_number (map decimal ids)) ids _ (all_again (λ v. v ≤ 65535) u16_number decimal u16_again ids k.1)

-- ---- encoder lines

abbrev pub encoder_line_word : EncoderLine → Word
encoder_line_word (state_line word) = state_word
encoder_line_word (stencil_line front back) = stencil_word
encoder_line_word (scissor_line r) = scissor_word
encoder_line_word (transform_line m) = transform_word
encoder_line_word (vertices_line n first count) = vertices_word
encoder_line_word (indices_line n first count) = indices_word
encoder_line_word (transient_vertices_line layout bytes) = transient_vertices_word
encoder_line_word (transient_indices_line bytes) = transient_indices_word
encoder_line_word (bind_line stage texture) = bind_word
encoder_line_word (set_line n value) = set_word
encoder_line_word (submit_line view n depth flags) = submit_word
encoder_line_word (touch_line view) = touch_word
encoder_line_word (blit_line view destination dx dy source sx sy w h) = blit_word

four_again : (names : List BoundName) (all : List Field) (n : ℕ) (x y z w : _) → IsInteger x → IsInteger y → IsInteger z → IsInteger w → uniform_value_of (codes "set" ∷ name_at all n ∷ value_spelled (vec4_value (x ∷ y ∷ z ∷ w ∷ []))) ≡ Ok (vec4_value (x ∷ y ∷ z ∷ w ∷ []))
four_again names all n x y z w a b c d =
    goes_on (i32_number (signed_decimal x)) x _ (i32_again x a) ∙ goes_on (i32_number (signed_decimal y)) y _ (i32_again y b)
    ∙ goes_on (i32_number (signed_decimal z)) z _ (i32_again z c) ∙ goes_on (i32_number (signed_decimal w)) w _ (i32_again w d)

set_line_again : (all : List Field) (bound : List Bool) (n : ℕ) (v : UniformValue) → HasNames all → length bound ≤ length all → n < length bound → IsValue v
    → encoder_form (named all bound) (encoder_fields all (set_line n v)) set_word ≡ Ok (set_line n v)
set_line_again all bound n (int_value z) h le lt k =
    goes_on (used_name (named all bound) (name_at all n)) n _ (used_again all bound n h le lt) ∙ goes_on (uniform_value_of (encoder_fields all (set_line n (int_value z)))) (int_value z) _ (goes_on (i32_number (signed_decimal z)) z _ (i32_again z k))
set_line_again all bound n (vec4_value (x ∷ y ∷ z ∷ w ∷ [])) h le lt k =
    goes_on (used_name (named all bound) (name_at all n)) n _ (used_again all bound n h le lt)
    ∙ goes_on (uniform_value_of (encoder_fields all (set_line n (vec4_value (x ∷ y ∷ z ∷ w ∷ []))))) (vec4_value (x ∷ y ∷ z ∷ w ∷ [])) _ (four_again (named all bound) all n x y z w k.1.0 k.1.1.0 k.1.1.1.0 k.1.1.1.1.0)
set_line_again all bound n (vec4_value []) h le lt k = absurd (omega (arith, k.0))
set_line_again all bound n (vec4_value (x ∷ [])) h le lt k = absurd (omega (arith, k.0))
set_line_again all bound n (vec4_value (x ∷ y ∷ [])) h le lt k = absurd (omega (arith, k.0))
set_line_again all bound n (vec4_value (x ∷ y ∷ z ∷ [])) h le lt k = absurd (omega (arith, k.0))
set_line_again all bound n (vec4_value (x ∷ y ∷ z ∷ w ∷ v ∷ rest)) h le lt k = absurd (omega (arith, k.0))

pub encoder_again : (all : List Field) (bound : List Bool) (l : EncoderLine) → HasNames all → length bound ≤ length all → IsEncoderLine bound l → encoder_form (named all bound) (encoder_fields all l) (encoder_line_word l) ≡ Ok l
encoder_again all bound (state_line word) h le k = goes_on (number_to (2 ^ 64 - 1) (decimal word)) word _ (u64_again word k)
encoder_again all bound (stencil_line front back) h le k = goes_on (u32_number (decimal front)) front _ (u32_again front k.0) ∙ goes_on (u32_number (decimal back)) back _ (u32_again back k.1)
encoder_again all bound (scissor_line r) h le k = goes_on (rect_fields (encoder_fields all (scissor_line r)) 1) r _ (rect_again (encoder_fields all (scissor_line r)) 1 r refl refl refl refl k)
encoder_again all bound (transform_line m) h le k =
    let fs = codes "transform" ∷ map signed_decimal m in
    let count : length fs ≡ 13 = omega (arith, length-map m signed_decimal, k.0) in
    goes_on (has_count 13 fs) true _ (count_again 13 fs count) ∙ goes_on (read_all i32_number (map signed_decimal m)) m _ (transform_again m k)
encoder_again all bound (vertices_line n first count) h le k =
    goes_on (used_name (named all bound) (name_at all n)) n _ (used_again all bound n h le k.0) ∙ goes_on (u32_number (decimal first)) first _ (u32_again first k.1) ∙ goes_on (u32_number (decimal count)) count _ (u32_again count k.2)
encoder_again all bound (indices_line n first count) h le k =
    goes_on (used_name (named all bound) (name_at all n)) n _ (used_again all bound n h le k.0) ∙ goes_on (u32_number (decimal first)) first _ (u32_again first k.1) ∙ goes_on (u32_number (decimal count)) count _ (u32_again count k.2)
encoder_again all bound (transient_vertices_line layout bytes) h le k =
    goes_on (used_name (named all bound) (name_at all layout)) layout _ (used_again all bound layout h le k.0) ∙ goes_on (hex_bytes (hex_field bytes)) bytes _ (hex_again bytes k.1)
encoder_again all bound (transient_indices_line bytes) h le k = goes_on (hex_bytes (hex_field bytes)) bytes _ (hex_again bytes k)
encoder_again all bound (bind_line stage texture) h le k =
    goes_on (u8_number (decimal stage)) stage _ (u8_again stage k.0) ∙ goes_on (optional_name (named all bound) (optional_name_at all texture)) texture _ (optional_again all bound texture h le k.1)
encoder_again all bound (set_line n value) h le k = set_line_again all bound n value h le k.0 k.1
encoder_again all bound (submit_line view n depth flags) h le k =
    goes_on (u16_number (decimal view)) view _ (u16_again view k.0) ∙ goes_on (used_name (named all bound) (name_at all n)) n _ (used_again all bound n h le k.1)
    ∙ goes_on (u32_number (decimal depth)) depth _ (u32_again depth k.2) ∙ goes_on (u8_number (decimal flags)) flags _ (u8_again flags k.3)
encoder_again all bound (touch_line view) h le k = goes_on (u16_number (decimal view)) view _ (u16_again view k)
encoder_again all bound (blit_line view destination dx dy source sx sy w h) names le k =
    goes_on (u16_number (decimal view)) view _ (u16_again view k.0) ∙ goes_on (used_name (named all bound) (name_at all destination)) destination _ (used_again all bound destination names le k.1)
    ∙ goes_on (u16_number (decimal dx)) dx _ (u16_again dx k.2) ∙ goes_on (u16_number (decimal dy)) dy _ (u16_again dy k.3) ∙ goes_on (used_name (named all bound) (name_at all source)) source _ (used_again all bound source names le k.4)
    ∙ goes_on (u16_number (decimal sx)) sx _ (u16_again sx k.5) ∙ goes_on (u16_number (decimal sy)) sy _ (u16_again sy k.6) ∙ goes_on (u16_number (decimal w)) w _ (u16_again w k.7) ∙ goes_on (u16_number (decimal h)) h _ (u16_again h k.8)
