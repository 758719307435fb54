-- An encoder's line that is read is spelled by its fields.
use Rattle.std.proofs.Common.{◌≡◌, eqb-true, ◌-◌, ◌^◌, ◌≤◌, ◌==◌, ◌||◌, Bool, true, false, cond, List, [], ◌∷◌, map, drop, length, Ok, refl, ap, ◌∙◌, arith}
use Rattle.std.specs.Prelude.{codes}
use Rattle.std.specs.Fmt.{decimal, signed_decimal}
use Rattle.scene_model.specs.Scene.{EncoderLine, state_line, stencil_line, scissor_line, transform_line, vertices_line, indices_line, transient_vertices_line, transient_indices_line, bind_line, set_line, submit_line, touch_line, blit_line}
use Rattle.scene_model.specs.Field.{Read, BoundName, ◌>>=◌, wrong_field_count, number_to, u8_number, u16_number, u32_number, i32_number, read_all, hex_bytes, used_name, optional_name}
use Rattle.scene_model.specs.Grammar.{Field, field, has_count, unless, rect_fields, state_word, stencil_word, scissor_word, transform_word, vertices_word, indices_word, transient_vertices_word, transient_indices_word, bind_word, set_word, submit_word, touch_word, blit_word, encoder_form, uniform_value_of}
use Rattle.spelling_model.specs.FieldSpelling.{hex_field, name_at, optional_name_at}
use Rattle.spelling_model.specs.LineSpelling.{encoder_fields}
use Rattle.spelling_model.proofs.Read.{bind_ok, same_ok, unless_ok, listed, count_ok, count_length, first_one}
use Rattle.spelling_model.proofs.Numbers.{u8_takes, u16_takes, u32_takes, u64_takes, i32_takes, all_takes}
use Rattle.spelling_model.proofs.Names.{IsPrefix, texts, used_takes, optional_takes}
use Rattle.spelling_model.proofs.Bytes.{hex_takes}
use Rattle.gfx_model.specs.Words.{UniformValue, vec4_value, int_value}
use Rattle.spelling_model.specs.LineSpelling.{value_spelled}
use Rattle.spelling_model.proofs.RectTakes.{rect_takes}

-- behind the word, the fields are those of the line
abbrev pub LineTakes : List BoundName → List Field → Field → EncoderLine → Type 0
LineTakes names fs text l = field fs 0 ≡ text → (all : List Field) → IsPrefix (texts names) all → fs ≡ encoder_fields all l

pub state_takes : (names : List BoundName) (fs : List Field) (l : EncoderLine) → encoder_form names fs state_word ≡ Ok l → LineTakes names fs (codes "state") l
state_takes names fs l e word all old =
    let c = bind_ok (has_count 2 fs) _ l e in
    let x1 = bind_ok (number_to (2 ^ 64 - 1) (field fs 1)) _ l c.2 in
    let made : state_line x1.0 ≡ l = same_ok x1.2 in
    let s1 : field fs 1 ≡ decimal x1.0 = u64_takes (field fs 1) x1.0 x1.1 in
    count_ok 2 fs c.0 c.1 ∙ (λ i. word i ∷ s1 i ∷ []) ∙ ap (encoder_fields all) made

pub stencil_takes : (names : List BoundName) (fs : List Field) (l : EncoderLine) → encoder_form names fs stencil_word ≡ Ok l → LineTakes names fs (codes "stencil") l
stencil_takes names fs l e word all old =
    let c = bind_ok (has_count 3 fs) _ l e in
    let x1 = bind_ok (u32_number (field fs 1)) _ l c.2 in
    let x2 = bind_ok (u32_number (field fs 2)) _ l x1.2 in
    let made : stencil_line x1.0 x2.0 ≡ l = same_ok x2.2 in
    let s1 : field fs 1 ≡ decimal x1.0 = u32_takes (field fs 1) x1.0 x1.1 in
    let s2 : field fs 2 ≡ decimal x2.0 = u32_takes (field fs 2) x2.0 x2.1 in
    count_ok 3 fs c.0 c.1 ∙ (λ i. word i ∷ s1 i ∷ s2 i ∷ []) ∙ ap (encoder_fields all) made

pub scissor_takes : (names : List BoundName) (fs : List Field) (l : EncoderLine) → encoder_form names fs scissor_word ≡ Ok l → LineTakes names fs (codes "scissor") l
scissor_takes names fs l e word all old =
    let c = bind_ok (has_count 5 fs) _ l e in
    let x1 = bind_ok (rect_fields fs 1) _ l c.2 in
    let made : scissor_line x1.0 ≡ l = same_ok x1.2 in
    let s1 : field fs 1 ≡ decimal x1.0.x = (rect_takes fs 1 x1.0 x1.1).0 in
    let s2 : field fs 2 ≡ decimal x1.0.y = (rect_takes fs 1 x1.0 x1.1).1 in
    let s3 : field fs 3 ≡ decimal x1.0.w = (rect_takes fs 1 x1.0 x1.1).2 in
    let s4 : field fs 4 ≡ decimal x1.0.h = (rect_takes fs 1 x1.0 x1.1).3 in
    count_ok 5 fs c.0 c.1 ∙ (λ i. word i ∷ s1 i ∷ s2 i ∷ s3 i ∷ s4 i ∷ []) ∙ ap (encoder_fields all) made

pub transform_takes : (names : List BoundName) (fs : List Field) (l : EncoderLine) → encoder_form names fs transform_word ≡ Ok l → LineTakes names fs (codes "transform") l
transform_takes names fs l e word all old =
    let c = bind_ok (has_count 13 fs) _ l e in
    let m = bind_ok (read_all i32_number (drop 1 fs)) _ l c.2 in
    let made : transform_line m.0 ≡ l = same_ok m.2 in
    let rest : drop 1 fs ≡ map signed_decimal m.0 = all_takes i32_number signed_decimal i32_takes (drop 1 fs) m.0 m.1 in
    let long : 1 ≤ length fs = omega (arith, count_length 13 fs c.0 c.1) in
    first_one fs long ∙ (λ i. word i ∷ rest i) ∙ ap (encoder_fields all) made

pub vertices_take : (names : List BoundName) (fs : List Field) (l : EncoderLine) → encoder_form names fs vertices_word ≡ Ok l → LineTakes names fs (codes "vertices") l
vertices_take names fs l e word all old =
    let c = bind_ok (has_count 4 fs) _ l e in
    let x1 = bind_ok (used_name names (field fs 1)) _ l c.2 in
    let x2 = bind_ok (u32_number (field fs 2)) _ l x1.2 in
    let x3 = bind_ok (u32_number (field fs 3)) _ l x2.2 in
    let made : vertices_line x1.0 x2.0 x3.0 ≡ l = same_ok x3.2 in
    let s1 : field fs 1 ≡ name_at all x1.0 = used_takes names (field fs 1) x1.0 x1.1 all old in
    let s2 : field fs 2 ≡ decimal x2.0 = u32_takes (field fs 2) x2.0 x2.1 in
    let s3 : field fs 3 ≡ decimal x3.0 = u32_takes (field fs 3) x3.0 x3.1 in
    count_ok 4 fs c.0 c.1 ∙ (λ i. word i ∷ s1 i ∷ s2 i ∷ s3 i ∷ []) ∙ ap (encoder_fields all) made

pub indices_take : (names : List BoundName) (fs : List Field) (l : EncoderLine) → encoder_form names fs indices_word ≡ Ok l → LineTakes names fs (codes "indices") l
indices_take names fs l e word all old =
    let c = bind_ok (has_count 4 fs) _ l e in
    let x1 = bind_ok (used_name names (field fs 1)) _ l c.2 in
    let x2 = bind_ok (u32_number (field fs 2)) _ l x1.2 in
    let x3 = bind_ok (u32_number (field fs 3)) _ l x2.2 in
    let made : indices_line x1.0 x2.0 x3.0 ≡ l = same_ok x3.2 in
    let s1 : field fs 1 ≡ name_at all x1.0 = used_takes names (field fs 1) x1.0 x1.1 all old in
    let s2 : field fs 2 ≡ decimal x2.0 = u32_takes (field fs 2) x2.0 x2.1 in
    let s3 : field fs 3 ≡ decimal x3.0 = u32_takes (field fs 3) x3.0 x3.1 in
    count_ok 4 fs c.0 c.1 ∙ (λ i. word i ∷ s1 i ∷ s2 i ∷ s3 i ∷ []) ∙ ap (encoder_fields all) made

pub transient_vertices_take : (names : List BoundName) (fs : List Field) (l : EncoderLine) → encoder_form names fs transient_vertices_word ≡ Ok l → LineTakes names fs (codes "tvertices") l
transient_vertices_take names fs l e word all old =
    let c = bind_ok (has_count 3 fs) _ l e in
    let x1 = bind_ok (used_name names (field fs 1)) _ l c.2 in
    let x2 = bind_ok (hex_bytes (field fs 2)) _ l x1.2 in
    let made : transient_vertices_line x1.0 x2.0 ≡ l = same_ok x2.2 in
    let s1 : field fs 1 ≡ name_at all x1.0 = used_takes names (field fs 1) x1.0 x1.1 all old in
    let s2 : field fs 2 ≡ hex_field x2.0 = hex_takes (field fs 2) x2.0 x2.1 in
    count_ok 3 fs c.0 c.1 ∙ (λ i. word i ∷ s1 i ∷ s2 i ∷ []) ∙ ap (encoder_fields all) made

pub transient_indices_take : (names : List BoundName) (fs : List Field) (l : EncoderLine) → encoder_form names fs transient_indices_word ≡ Ok l → LineTakes names fs (codes "tindices") l
transient_indices_take names fs l e word all old =
    let c = bind_ok (has_count 2 fs) _ l e in
    let x1 = bind_ok (hex_bytes (field fs 1)) _ l c.2 in
    let made : transient_indices_line x1.0 ≡ l = same_ok x1.2 in
    let s1 : field fs 1 ≡ hex_field x1.0 = hex_takes (field fs 1) x1.0 x1.1 in
    count_ok 2 fs c.0 c.1 ∙ (λ i. word i ∷ s1 i ∷ []) ∙ ap (encoder_fields all) made

pub bind_takes : (names : List BoundName) (fs : List Field) (l : EncoderLine) → encoder_form names fs bind_word ≡ Ok l → LineTakes names fs (codes "bind") l
bind_takes names fs l e word all old =
    let c = bind_ok (has_count 3 fs) _ l e in
    let x1 = bind_ok (u8_number (field fs 1)) _ l c.2 in
    let x2 = bind_ok (optional_name names (field fs 2)) _ l x1.2 in
    let made : bind_line x1.0 x2.0 ≡ l = same_ok x2.2 in
    let s1 : field fs 1 ≡ decimal x1.0 = u8_takes (field fs 1) x1.0 x1.1 in
    let s2 : field fs 2 ≡ optional_name_at all x2.0 = optional_takes names (field fs 2) x2.0 x2.1 all old in
    count_ok 3 fs c.0 c.1 ∙ (λ i. word i ∷ s1 i ∷ s2 i ∷ []) ∙ ap (encoder_fields all) made

-- the fields behind the name of a `set` line
abbrev ValueTakes : List Field → UniformValue → Type 0
ValueTakes fs value = fs ≡ field fs 0 ∷ field fs 1 ∷ value_spelled value

one_takes : (fs : List Field) (value : UniformValue) → (length fs == 3) ≡ true → (i32_number (field fs 2) >>= λ z. Ok (int_value z)) ≡ Ok value → ValueTakes fs value
one_takes fs value h e =
    let z = bind_ok (i32_number (field fs 2)) _ value e in
    let made : int_value z.0 ≡ value = same_ok z.2 in
    let s2 : field fs 2 ≡ signed_decimal z.0 = i32_takes (field fs 2) z.0 z.1 in
    listed 3 fs (eqb-true _ _ h) ∙ (λ i. field fs 0 ∷ field fs 1 ∷ s2 i ∷ []) ∙ ap (λ v. field fs 0 ∷ field fs 1 ∷ value_spelled v) made

abbrev four_numbers : List Field → Read UniformValue
four_numbers fs = do
  x ← i32_number (field fs 2)
  y ← i32_number (field fs 3)
  z ← i32_number (field fs 4)
  w ← i32_number (field fs 5)
  Ok (vec4_value (x ∷ y ∷ z ∷ w ∷ []))

four_take : (fs : List Field) (value : UniformValue) → (length fs == 6) ≡ true → four_numbers fs ≡ Ok value → ValueTakes fs value
four_take fs value h e =
    let x = bind_ok (i32_number (field fs 2)) _ value e in
    let y = bind_ok (i32_number (field fs 3)) _ value x.2 in
    let z = bind_ok (i32_number (field fs 4)) _ value y.2 in
    let w = bind_ok (i32_number (field fs 5)) _ value z.2 in
    let made : vec4_value (x.0 ∷ y.0 ∷ z.0 ∷ w.0 ∷ []) ≡ value = same_ok w.2 in
    let s2 : field fs 2 ≡ signed_decimal x.0 = i32_takes (field fs 2) x.0 x.1 in
    let s3 : field fs 3 ≡ signed_decimal y.0 = i32_takes (field fs 3) y.0 y.1 in
    let s4 : field fs 4 ≡ signed_decimal z.0 = i32_takes (field fs 4) z.0 z.1 in
    let s5 : field fs 5 ≡ signed_decimal w.0 = i32_takes (field fs 5) w.0 w.1 in
    listed 6 fs (eqb-true _ _ h) ∙ (λ i. field fs 0 ∷ field fs 1 ∷ s2 i ∷ s3 i ∷ s4 i ∷ s5 i ∷ []) ∙ ap (λ v. field fs 0 ∷ field fs 1 ∷ value_spelled v) made

value_takes : (fs : List Field) (value : UniformValue) → ((length fs == 3) || (length fs == 6)) ≡ true → uniform_value_of fs ≡ Ok value → ValueTakes fs value
value_takes fs value h e = by (length fs == 3) refl (length fs == 6) refl h e
  where
    by : (t : Bool) → (length fs == 3) ≡ t → (u : Bool) → (length fs == 6) ≡ u → (t || u) ≡ true → cond t (i32_number (field fs 2) >>= λ z. Ok (int_value z)) (four_numbers fs) ≡ Ok value → ValueTakes fs value
    by true t u h or e = one_takes fs value t e
    by false t true h or e = four_take fs value h e
    by false t false h or e = absurd (cc or)

pub set_takes : (names : List BoundName) (fs : List Field) (l : EncoderLine) → encoder_form names fs set_word ≡ Ok l → LineTakes names fs (codes "set") l
set_takes names fs l e word all old =
    let c = bind_ok (unless ((length fs == 3) || (length fs == 6)) wrong_field_count) _ l e in
    let n = bind_ok (used_name names (field fs 1)) _ l c.2 in
    let v = bind_ok (uniform_value_of fs) _ l n.2 in
    let made : set_line n.0 v.0 ≡ l = same_ok v.2 in
    let s1 : field fs 1 ≡ name_at all n.0 = used_takes names (field fs 1) n.0 n.1 all old in
    let value : ValueTakes fs v.0 = value_takes fs v.0 (unless_ok ((length fs == 3) || (length fs == 6)) wrong_field_count c.0 c.1) v.1 in
    value ∙ (λ i. word i ∷ s1 i ∷ value_spelled v.0) ∙ ap (encoder_fields all) made

pub submit_takes : (names : List BoundName) (fs : List Field) (l : EncoderLine) → encoder_form names fs submit_word ≡ Ok l → LineTakes names fs (codes "submit") l
submit_takes names fs l e word all old =
    let c = bind_ok (has_count 5 fs) _ l e in
    let x1 = bind_ok (u16_number (field fs 1)) _ l c.2 in
    let x2 = bind_ok (used_name names (field fs 2)) _ l x1.2 in
    let x3 = bind_ok (u32_number (field fs 3)) _ l x2.2 in
    let x4 = bind_ok (u8_number (field fs 4)) _ l x3.2 in
    let made : submit_line x1.0 x2.0 x3.0 x4.0 ≡ l = same_ok x4.2 in
    let s1 : field fs 1 ≡ decimal x1.0 = u16_takes (field fs 1) x1.0 x1.1 in
    let s2 : field fs 2 ≡ name_at all x2.0 = used_takes names (field fs 2) x2.0 x2.1 all old in
    let s3 : field fs 3 ≡ decimal x3.0 = u32_takes (field fs 3) x3.0 x3.1 in
    let s4 : field fs 4 ≡ decimal x4.0 = u8_takes (field fs 4) x4.0 x4.1 in
    count_ok 5 fs c.0 c.1 ∙ (λ i. word i ∷ s1 i ∷ s2 i ∷ s3 i ∷ s4 i ∷ []) ∙ ap (encoder_fields all) made

pub touch_takes : (names : List BoundName) (fs : List Field) (l : EncoderLine) → encoder_form names fs touch_word ≡ Ok l → LineTakes names fs (codes "touch") l
touch_takes names fs l e word all old =
    let c = bind_ok (has_count 2 fs) _ l e in
    let x1 = bind_ok (u16_number (field fs 1)) _ l c.2 in
    let made : touch_line x1.0 ≡ l = same_ok x1.2 in
    let s1 : field fs 1 ≡ decimal x1.0 = u16_takes (field fs 1) x1.0 x1.1 in
    count_ok 2 fs c.0 c.1 ∙ (λ i. word i ∷ s1 i ∷ []) ∙ ap (encoder_fields all) made

pub blit_takes : (names : List BoundName) (fs : List Field) (l : EncoderLine) → encoder_form names fs blit_word ≡ Ok l → LineTakes names fs (codes "blit") l
blit_takes names fs l e word all old =
    let c = bind_ok (has_count 10 fs) _ l e in
    let x1 = bind_ok (u16_number (field fs 1)) _ l c.2 in
    let x2 = bind_ok (used_name names (field fs 2)) _ l x1.2 in
    let x3 = bind_ok (u16_number (field fs 3)) _ l x2.2 in
    let x4 = bind_ok (u16_number (field fs 4)) _ l x3.2 in
    let x5 = bind_ok (used_name names (field fs 5)) _ l x4.2 in
    let x6 = bind_ok (u16_number (field fs 6)) _ l x5.2 in
    let x7 = bind_ok (u16_number (field fs 7)) _ l x6.2 in
    let x8 = bind_ok (u16_number (field fs 8)) _ l x7.2 in
    let x9 = bind_ok (u16_number (field fs 9)) _ l x8.2 in
    let made : blit_line x1.0 x2.0 x3.0 x4.0 x5.0 x6.0 x7.0 x8.0 x9.0 ≡ l = same_ok x9.2 in
    let s1 : field fs 1 ≡ decimal x1.0 = u16_takes (field fs 1) x1.0 x1.1 in
    let s2 : field fs 2 ≡ name_at all x2.0 = used_takes names (field fs 2) x2.0 x2.1 all old in
    let s3 : field fs 3 ≡ decimal x3.0 = u16_takes (field fs 3) x3.0 x3.1 in
    let s4 : field fs 4 ≡ decimal x4.0 = u16_takes (field fs 4) x4.0 x4.1 in
    let s5 : field fs 5 ≡ name_at all x5.0 = used_takes names (field fs 5) x5.0 x5.1 all old in
    let s6 : field fs 6 ≡ decimal x6.0 = u16_takes (field fs 6) x6.0 x6.1 in
    let s7 : field fs 7 ≡ decimal x7.0 = u16_takes (field fs 7) x7.0 x7.1 in
    let s8 : field fs 8 ≡ decimal x8.0 = u16_takes (field fs 8) x8.0 x8.1 in
    let s9 : field fs 9 ≡ decimal x9.0 = u16_takes (field fs 9) x9.0 x9.1 in
    count_ok 10 fs c.0 c.1 ∙ (λ i. word i ∷ s1 i ∷ s2 i ∷ s3 i ∷ s4 i ∷ s5 i ∷ s6 i ∷ s7 i ∷ s8 i ∷ s9 i ∷ []) ∙ ap (encoder_fields all) made
