-- What a line is read as has its numbers in their ranges and its names bound.
use Rattle.std.proofs.Common.{◌≡◌, ℕ, ◌+◌, ◌-◌, ◌^◌, ◌≤◌, leb, Bool, true, false, ◌||◌, ◌==◌, leb-true, cond, List, [], ◌∷◌, drop, length, Ok, refl, ◌∙◌, arith}
use Rattle.std.proofs.lemmas.List.{length-drop}
use Rattle.gfx_model.specs.Words.{vec4_value, int_value}
use Rattle.scene_model.specs.Scene.{ResourceLine, layout_line, vertex_buffer_line, index_buffer_line, texture_line, frame_buffer_line, program_line, uniform_line, update_line, texel_update_line, destroy_line, rect_line, view_scissor_line, clear_line, mode_line, target_line, view_transform_line, reset_line, order_line, EncoderLine, state_line, stencil_line, scissor_line, transform_line, vertices_line, indices_line, transient_vertices_line, transient_indices_line, bind_line, set_line, submit_line, touch_line, blit_line}
use Rattle.scene_model.specs.Field.{◌>>=◌, misplaced_word, wrong_field_count, BoundName, number_to, u8_number, u16_number, u32_number, i32_number, read_all, word_in, formats, programs, uniform_kinds, modes, destinations, hex_bytes, source_field, part_field, used_name, optional_name, create_name}
use Rattle.scene_model.specs.Grammar.{Field, field, Named, Word, scene_word, size_word, encoders_word, room_word, latency_word, frame_word, encoder_word, beside_word, done_word, journal_word, layout_word, vertex_buffer_word, index_buffer_word, texture_word, frame_buffer_word, program_word, uniform_word, update_word, texel_update_word, destroy_word, view_word, order_word, state_word, stencil_word, scissor_word, transform_word, vertices_word, indices_word, transient_vertices_word, transient_indices_word, bind_word, set_word, submit_word, touch_word, blit_word, unless, has_count, has_count_from, has_field, are_filled, rect_fields, clear_fields, Setting, rect_setting, scissor_setting, clear_setting, mode_setting, target_setting, transform_setting, reset_setting, settings, setting_form, layout_form, vertex_buffer_form, index_buffer_form, texture_form, frame_buffer_form, program_form, uniform_form, update_form, texel_update_form, destroy_form, order_form, view_form, uniform_value_of, set_form, submit_form, blit_form, resource_form, encoder_form, whole_language}
use Rattle.spelling_model.specs.Readable.{IsInteger, IsTransform, IsValue, IsPart, bound_by, IsResourceLine, IsEncoderLine}
use Rattle.spelling_model.proofs.Read.{both, unless_ok, count_length}
use Rattle.spelling_model.proofs.FieldRanges.{AllRead, behind, past, made, none_made, u8_range, u16_range, u32_range, u64_range, i32_range, all_range, rect_range, clear_range, hex_range, source_range, part_range}
use Rattle.spelling_model.proofs.NameRanges.{flags, AreNames, used_range, optional_range, create_range, uniform_range}

-- the line is one that can be written behind these names, and the names behind it are those that it says
abbrev pub Fits : (views : ℕ) → List BoundName → Named ResourceLine → Type 0
Fits views names l = IsResourceLine views (flags names) l.0 × (flags l.1 ≡ bound_by (flags names) l.0) × (AreNames names → AreNames l.1)

-- ---- lines that bind a name

layout_fits : (views : ℕ) (names : List BoundName) (fs : List Field) → AllRead (Fits views names) (layout_form names fs)
layout_fits views names fs =
    past (has_count_from 3 17 fs) _ (λ b c. behind (create_name names false (field fs 1)) _ (create_range names (field fs 1)) (λ n p.
    behind (read_all part_field (drop 2 fs)) _ (all_range IsPart part_field part_range (drop 2 fs)) (λ parts q.
    let t = both (leb 3 (length fs)) (leb (length fs) 17) (unless_ok _ wrong_field_count b c) in
    let low = leb-true 3 (length fs) t.0 in
    let high = leb-true (length fs) 17 t.1 in
    let count : length parts ≡ length fs - 2 = q.1 ∙ length-drop 2 fs in
    made (Fits views names) (layout_line n.0 parts, n.1) ((p.0, omega (arith, count, low), omega (arith, count, high), q.0), p.1, p.2))))

vertex_buffer_fits : (views : ℕ) (names : List BoundName) (fs : List Field) → AllRead (Fits views names) (vertex_buffer_form names fs)
vertex_buffer_fits views names fs =
    past (has_count 4 fs) _ (λ b c. behind (create_name names false (field fs 1)) _ (create_range names (field fs 1)) (λ n p.
    behind (used_name names (field fs 2)) _ (used_range names (field fs 2)) (λ l q. behind (hex_bytes (field fs 3)) _ (hex_range (field fs 3)) (λ bytes r.
    made (Fits views names) (vertex_buffer_line n.0 l bytes, n.1) ((p.0, q, r), p.1, p.2)))))

index_buffer_fits : (views : ℕ) (names : List BoundName) (fs : List Field) → AllRead (Fits views names) (index_buffer_form names fs)
index_buffer_fits views names fs =
    past (has_count 3 fs) _ (λ b c. behind (create_name names false (field fs 1)) _ (create_range names (field fs 1)) (λ n p. behind (hex_bytes (field fs 2)) _ (hex_range (field fs 2)) (λ bytes r.
    made (Fits views names) (index_buffer_line n.0 bytes, n.1) ((p.0, r), p.1, p.2))))

texture_fits : (views : ℕ) (names : List BoundName) (fs : List Field) → AllRead (Fits views names) (texture_form names fs)
texture_fits views names fs =
    past (has_count 7 fs) _ (λ b c. behind (create_name names false (field fs 1)) _ (create_range names (field fs 1)) (λ n p.
    behind (u16_number (field fs 2)) _ (u16_range (field fs 2)) (λ w wide. behind (u16_number (field fs 3)) _ (u16_range (field fs 3)) (λ h high.
    past (word_in formats (field fs 4)) _ (λ f _. past (word_in destinations (field fs 5)) _ (λ d _. behind (source_field (field fs 6)) _ (source_range (field fs 6)) (λ s r.
    made (Fits views names) (texture_line n.0 w h f d s, n.1) ((p.0, wide, high, r), p.1, p.2))))))))

frame_buffer_fits : (views : ℕ) (names : List BoundName) (fs : List Field) → AllRead (Fits views names) (frame_buffer_form names fs)
frame_buffer_fits views names fs =
    past (has_count 4 fs) _ (λ b c. behind (create_name names false (field fs 1)) _ (create_range names (field fs 1)) (λ n p.
    behind (used_name names (field fs 2)) _ (used_range names (field fs 2)) (λ color q. behind (optional_name names (field fs 3)) _ (optional_range names (field fs 3)) (λ depth r.
    made (Fits views names) (frame_buffer_line n.0 color depth, n.1) ((p.0, q, r), p.1, p.2)))))

program_fits : (views : ℕ) (names : List BoundName) (fs : List Field) → AllRead (Fits views names) (program_form whole_language names fs)
program_fits views names fs =
    past (has_count 3 fs) _ (λ b c. behind (create_name names false (field fs 1)) _ (create_range names (field fs 1)) (λ n p. past (word_in programs (field fs 2)) _ (λ k _.
    made (Fits views names) (program_line n.0 k, n.1) (p.0, p.1, p.2))))

uniform_fits : (views : ℕ) (names : List BoundName) (fs : List Field) → AllRead (Fits views names) (uniform_form whole_language names fs)
uniform_fits views names fs =
    past (has_count 3 fs) _ (λ b c. behind (create_name names true (field fs 1)) _ (uniform_range names (field fs 1)) (λ n p. past (word_in uniform_kinds (field fs 2)) _ (λ k _.
    made (Fits views names) (uniform_line n.0 k, n.1) (p.0, p.1, p.2))))

-- ---- lines that bind no name

update_fits : (views : ℕ) (names : List BoundName) (fs : List Field) → AllRead (Fits views names) (update_form names fs)
update_fits views names fs =
    past (has_count 4 fs) _ (λ b c. behind (used_name names (field fs 1)) _ (used_range names (field fs 1)) (λ n p.
    behind (u32_number (field fs 2)) _ (u32_range (field fs 2)) (λ offset q. behind (hex_bytes (field fs 3)) _ (hex_range (field fs 3)) (λ bytes r.
    made (Fits views names) (update_line n offset bytes, names) ((p, q, r), refl, λ h. h)))))

texel_update_fits : (views : ℕ) (names : List BoundName) (fs : List Field) → AllRead (Fits views names) (texel_update_form names fs)
texel_update_fits views names fs =
    past (has_count 7 fs) _ (λ b c. behind (used_name names (field fs 1)) _ (used_range names (field fs 1)) (λ n p.
    behind (rect_fields fs 2) _ (rect_range fs 2) (λ rect q. behind (hex_bytes (field fs 6)) _ (hex_range (field fs 6)) (λ bytes r.
    made (Fits views names) (texel_update_line n rect bytes, names) ((p, q, r), refl, λ h. h)))))

destroy_fits : (views : ℕ) (names : List BoundName) (fs : List Field) → AllRead (Fits views names) (destroy_form names fs)
destroy_fits views names fs =
    past (has_count 2 fs) _ (λ b c. behind (used_name names (field fs 1)) _ (used_range names (field fs 1)) (λ n p. made (Fits views names) (destroy_line n, names) (p, refl, λ h. h)))

order_fits : (views : ℕ) (names : List BoundName) (fs : List Field) → AllRead (Fits views names) (order_form views names fs)
order_fits views names fs =
    past (has_count_from 1 (1 + views) fs) _ (λ b c. behind (read_all u16_number (drop 1 fs)) _ (all_range (λ v. v ≤ 65535) u16_number u16_range (drop 1 fs)) (λ ids q.
    let t = both (leb 1 (length fs)) (leb (length fs) (1 + views)) (unless_ok _ wrong_field_count b c) in
    let high = leb-true (length fs) (1 + views) t.1 in
    made (Fits views names) (order_line ids, names) ((omega (arith, q.1, length-drop 1 fs, high), q.0), refl, λ h. h)))

transform_range : (k n : ℕ) (fs : List Field) (b : Bool) → has_count n fs ≡ Ok b → n ≡ k + 12 → AllRead IsTransform (read_all i32_number (drop k fs))
transform_range k n fs b c long m e =
    let q = all_range IsInteger i32_number i32_range (drop k fs) m e in
    (omega (arith, q.1, length-drop k fs, count_length n fs b c, long), q.0)

-- a view line names no names but its target
abbrev SettingFits : (views : ℕ) → List BoundName → ResourceLine → Type 0
SettingFits views names l = IsResourceLine views (flags names) l × (flags names ≡ bound_by (flags names) l)

setting_fits : (views : ℕ) (names : List BoundName) (fs : List Field) (v : ℕ) (s : Setting) → v ≤ 65535 → AllRead (SettingFits views names) (setting_form names fs v s)
setting_fits views names fs v rect_setting k = past (has_count 7 fs) _ (λ b c. behind (rect_fields fs 3) _ (rect_range fs 3) (λ r p. made (SettingFits views names) (rect_line v r) ((k, p), refl)))
setting_fits views names fs v scissor_setting k = past (has_count 7 fs) _ (λ b c. behind (rect_fields fs 3) _ (rect_range fs 3) (λ r p. made (SettingFits views names) (view_scissor_line v r) ((k, p), refl)))
setting_fits views names fs v clear_setting k = past (has_count 7 fs) _ (λ b c. behind (clear_fields fs) _ (clear_range fs) (λ r p. made (SettingFits views names) (clear_line v r) ((k, p), refl)))
setting_fits views names fs v mode_setting k = past (has_count 4 fs) _ (λ b c. past (word_in modes (field fs 3)) _ (λ m _. made (SettingFits views names) (mode_line v m) (k, refl)))
setting_fits views names fs v target_setting k = past (has_count 4 fs) _ (λ b c. behind (optional_name names (field fs 3)) _ (optional_range names (field fs 3)) (λ t p. made (SettingFits views names) (target_line v t) ((k, p), refl)))
setting_fits views names fs v transform_setting k = past (has_count 15 fs) _ (λ b c. behind (read_all i32_number (drop 3 fs)) _ (transform_range 3 15 fs b c refl) (λ m p. made (SettingFits views names) (view_transform_line v m) ((k, p), refl)))
setting_fits views names fs v reset_setting k = past (has_count 3 fs) _ (λ b c. made (SettingFits views names) (reset_line v) (k, refl))

view_fits : (views : ℕ) (names : List BoundName) (fs : List Field) → AllRead (Fits views names) (view_form whole_language names fs)
view_fits views names fs =
    past (has_field 1 fs) _ (λ a _. behind (u16_number (field fs 1)) _ (u16_range (field fs 1)) (λ v k. past (has_field 2 fs) _ (λ b _. past (word_in settings (field fs 2)) _ (λ s _. past (are_filled fs) _ (λ c _.
    behind (setting_form names fs v s) _ (setting_fits views names fs v s k) (λ l p. made (Fits views names) (l, names) (p.0, p.1, λ h. h)))))))

pub resource_fits : (views : ℕ) (names : List BoundName) (fs : List Field) (w : Word) → AllRead (Fits views names) (resource_form whole_language views names fs w)
resource_fits views names fs layout_word = layout_fits views names fs
resource_fits views names fs vertex_buffer_word = vertex_buffer_fits views names fs
resource_fits views names fs index_buffer_word = index_buffer_fits views names fs
resource_fits views names fs texture_word = texture_fits views names fs
resource_fits views names fs frame_buffer_word = frame_buffer_fits views names fs
resource_fits views names fs program_word = program_fits views names fs
resource_fits views names fs uniform_word = uniform_fits views names fs
resource_fits views names fs update_word = update_fits views names fs
resource_fits views names fs texel_update_word = texel_update_fits views names fs
resource_fits views names fs destroy_word = destroy_fits views names fs
resource_fits views names fs view_word = view_fits views names fs
resource_fits views names fs order_word = order_fits views names fs
resource_fits views names fs scene_word = none_made _ misplaced_word
resource_fits views names fs size_word = none_made _ misplaced_word
resource_fits views names fs encoders_word = none_made _ misplaced_word
resource_fits views names fs room_word = none_made _ misplaced_word
resource_fits views names fs latency_word = none_made _ misplaced_word
resource_fits views names fs frame_word = none_made _ misplaced_word
resource_fits views names fs encoder_word = none_made _ misplaced_word
resource_fits views names fs beside_word = none_made _ misplaced_word
resource_fits views names fs done_word = none_made _ misplaced_word
resource_fits views names fs journal_word = none_made _ misplaced_word
resource_fits views names fs state_word = none_made _ misplaced_word
resource_fits views names fs stencil_word = none_made _ misplaced_word
resource_fits views names fs scissor_word = none_made _ misplaced_word
resource_fits views names fs transform_word = none_made _ misplaced_word
resource_fits views names fs vertices_word = none_made _ misplaced_word
resource_fits views names fs indices_word = none_made _ misplaced_word
resource_fits views names fs transient_vertices_word = none_made _ misplaced_word
resource_fits views names fs transient_indices_word = none_made _ misplaced_word
resource_fits views names fs bind_word = none_made _ misplaced_word
resource_fits views names fs set_word = none_made _ misplaced_word
resource_fits views names fs submit_word = none_made _ misplaced_word
resource_fits views names fs touch_word = none_made _ misplaced_word
resource_fits views names fs blit_word = none_made _ misplaced_word

-- ---- encoder lines

abbrev LineFits : List BoundName → EncoderLine → Type 0
LineFits names l = IsEncoderLine (flags names) l

value_range : (fs : List Field) → AllRead IsValue (uniform_value_of fs)
value_range fs = by (length fs == 3)
  where
    by : (t : Bool) → AllRead IsValue (cond t (i32_number (field fs 2) >>= λ z. Ok (int_value z)) (i32_number (field fs 2) >>= λ x. i32_number (field fs 3) >>= λ y. i32_number (field fs 4) >>= λ z. i32_number (field fs 5) >>= λ w. Ok (vec4_value (x ∷ y ∷ z ∷ w ∷ []))))
    by true = behind (i32_number (field fs 2)) _ (i32_range (field fs 2)) (λ z p. made IsValue (int_value z) p)
    by false =
        behind (i32_number (field fs 2)) _ (i32_range (field fs 2)) (λ x p. behind (i32_number (field fs 3)) _ (i32_range (field fs 3)) (λ y q.
        behind (i32_number (field fs 4)) _ (i32_range (field fs 4)) (λ z r. behind (i32_number (field fs 5)) _ (i32_range (field fs 5)) (λ w s.
        made IsValue (vec4_value (x ∷ y ∷ z ∷ w ∷ [])) (refl, (p, (q, (r, (s, tt)))))))))

set_fits : (names : List BoundName) (fs : List Field) → AllRead (LineFits names) (set_form names fs)
set_fits names fs =
    past (unless ((length fs == 3) || (length fs == 6)) wrong_field_count) _ (λ b c. behind (used_name names (field fs 1)) _ (used_range names (field fs 1)) (λ n p. behind (uniform_value_of fs) _ (value_range fs) (λ v q.
    made (LineFits names) (set_line n v) (p, q))))

submit_fits : (names : List BoundName) (fs : List Field) → AllRead (LineFits names) (submit_form names fs)
submit_fits names fs =
    past (has_count 5 fs) _ (λ b c. behind (u16_number (field fs 1)) _ (u16_range (field fs 1)) (λ v p. behind (used_name names (field fs 2)) _ (used_range names (field fs 2)) (λ n q.
    behind (u32_number (field fs 3)) _ (u32_range (field fs 3)) (λ depth r. behind (u8_number (field fs 4)) _ (u8_range (field fs 4)) (λ flags s.
    made (LineFits names) (submit_line v n depth flags) (p, q, r, s))))))

blit_fits : (names : List BoundName) (fs : List Field) → AllRead (LineFits names) (blit_form names fs)
blit_fits names fs =
    past (has_count 10 fs) _ (λ b c. behind (u16_number (field fs 1)) _ (u16_range (field fs 1)) (λ v p. behind (used_name names (field fs 2)) _ (used_range names (field fs 2)) (λ d q.
    behind (u16_number (field fs 3)) _ (u16_range (field fs 3)) (λ dx r. behind (u16_number (field fs 4)) _ (u16_range (field fs 4)) (λ dy s.
    behind (used_name names (field fs 5)) _ (used_range names (field fs 5)) (λ src t. behind (u16_number (field fs 6)) _ (u16_range (field fs 6)) (λ sx u.
    behind (u16_number (field fs 7)) _ (u16_range (field fs 7)) (λ sy x. behind (u16_number (field fs 8)) _ (u16_range (field fs 8)) (λ w y. behind (u16_number (field fs 9)) _ (u16_range (field fs 9)) (λ h z.
    made (LineFits names) (blit_line v d dx dy src sx sy w h) (p, q, r, s, t, u, x, y, z)))))))))))

pub encoder_fits : (names : List BoundName) (fs : List Field) (w : Word) → AllRead (LineFits names) (encoder_form names fs w)
encoder_fits names fs state_word = past (has_count 2 fs) _ (λ b c. behind (number_to (2 ^ 64 - 1) (field fs 1)) _ (u64_range (field fs 1)) (λ n p. made (LineFits names) (state_line n) p))
encoder_fits names fs stencil_word =
    past (has_count 3 fs) _ (λ b c. behind (u32_number (field fs 1)) _ (u32_range (field fs 1)) (λ x p. behind (u32_number (field fs 2)) _ (u32_range (field fs 2)) (λ y q. made (LineFits names) (stencil_line x y) (p, q))))
encoder_fits names fs scissor_word = past (has_count 5 fs) _ (λ b c. behind (rect_fields fs 1) _ (rect_range fs 1) (λ r p. made (LineFits names) (scissor_line r) p))
encoder_fits names fs transform_word = past (has_count 13 fs) _ (λ b c. behind (read_all i32_number (drop 1 fs)) _ (transform_range 1 13 fs b c refl) (λ m p. made (LineFits names) (transform_line m) p))
encoder_fits names fs vertices_word =
    past (has_count 4 fs) _ (λ b c. behind (used_name names (field fs 1)) _ (used_range names (field fs 1)) (λ n p. behind (u32_number (field fs 2)) _ (u32_range (field fs 2)) (λ x q. behind (u32_number (field fs 3)) _ (u32_range (field fs 3)) (λ y r.
    made (LineFits names) (vertices_line n x y) (p, q, r)))))
encoder_fits names fs indices_word =
    past (has_count 4 fs) _ (λ b c. behind (used_name names (field fs 1)) _ (used_range names (field fs 1)) (λ n p. behind (u32_number (field fs 2)) _ (u32_range (field fs 2)) (λ x q. behind (u32_number (field fs 3)) _ (u32_range (field fs 3)) (λ y r.
    made (LineFits names) (indices_line n x y) (p, q, r)))))
encoder_fits names fs transient_vertices_word =
    past (has_count 3 fs) _ (λ b c. behind (used_name names (field fs 1)) _ (used_range names (field fs 1)) (λ n p. behind (hex_bytes (field fs 2)) _ (hex_range (field fs 2)) (λ bytes q. made (LineFits names) (transient_vertices_line n bytes) (p, q))))
encoder_fits names fs transient_indices_word = past (has_count 2 fs) _ (λ b c. behind (hex_bytes (field fs 1)) _ (hex_range (field fs 1)) (λ bytes q. made (LineFits names) (transient_indices_line bytes) q))
encoder_fits names fs bind_word =
    past (has_count 3 fs) _ (λ b c. behind (u8_number (field fs 1)) _ (u8_range (field fs 1)) (λ s p. behind (optional_name names (field fs 2)) _ (optional_range names (field fs 2)) (λ t q. made (LineFits names) (bind_line s t) (p, q))))
encoder_fits names fs set_word = set_fits names fs
encoder_fits names fs submit_word = submit_fits names fs
encoder_fits names fs touch_word = past (has_count 2 fs) _ (λ b c. behind (u16_number (field fs 1)) _ (u16_range (field fs 1)) (λ v p. made (LineFits names) (touch_line v) p))
encoder_fits names fs blit_word = blit_fits names fs
encoder_fits names fs scene_word = none_made _ misplaced_word
encoder_fits names fs size_word = none_made _ misplaced_word
encoder_fits names fs encoders_word = none_made _ misplaced_word
encoder_fits names fs room_word = none_made _ misplaced_word
encoder_fits names fs latency_word = none_made _ misplaced_word
encoder_fits names fs frame_word = none_made _ misplaced_word
encoder_fits names fs encoder_word = none_made _ misplaced_word
encoder_fits names fs beside_word = none_made _ misplaced_word
encoder_fits names fs done_word = none_made _ misplaced_word
encoder_fits names fs journal_word = none_made _ misplaced_word
encoder_fits names fs layout_word = none_made _ misplaced_word
encoder_fits names fs vertex_buffer_word = none_made _ misplaced_word
encoder_fits names fs index_buffer_word = none_made _ misplaced_word
encoder_fits names fs texture_word = none_made _ misplaced_word
encoder_fits names fs frame_buffer_word = none_made _ misplaced_word
encoder_fits names fs program_word = none_made _ misplaced_word
encoder_fits names fs uniform_word = none_made _ misplaced_word
encoder_fits names fs update_word = none_made _ misplaced_word
encoder_fits names fs texel_update_word = none_made _ misplaced_word
encoder_fits names fs destroy_word = none_made _ misplaced_word
encoder_fits names fs view_word = none_made _ misplaced_word
encoder_fits names fs order_word = none_made _ misplaced_word
