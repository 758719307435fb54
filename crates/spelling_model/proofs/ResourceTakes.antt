-- A create, update or destroy line that is read is spelled by its fields.
use Rattle.std.proofs.Common.{◌≡◌, ℕ, ◌+◌, ◌≤◌, true, false, List, [], ◌∷◌, map, drop, length, Ok, subst, ◌∙◌, arith}
use Rattle.std.specs.Prelude.{codes}
use Rattle.std.specs.Fmt.{decimal}
use Rattle.scene_model.specs.Scene.{ResourceLine, layout_line, vertex_buffer_line, index_buffer_line, texture_line, frame_buffer_line, program_line, uniform_line, update_line, texel_update_line, destroy_line, order_line}
use Rattle.scene_model.specs.Field.{BoundName, u16_number, u32_number, read_all, word_in, formats, programs, uniform_kinds, destinations, hex_bytes, source_field, part_field, used_name, optional_name, create_name}
use Rattle.scene_model.specs.Grammar.{Field, field, Named, has_count, has_count_from, rect_fields, layout_form, vertex_buffer_form, index_buffer_form, texture_form, frame_buffer_form, program_form, uniform_form, update_form, texel_update_form, destroy_form, order_form, whole_language}
use Rattle.spelling_model.specs.FieldSpelling as field_spelling
use Rattle.spelling_model.specs.FieldSpelling.{format_word, uniform_kind_word, mode_word, destination_word, hex_field, color_spelled, source_spelled, part_spelled, name_at, optional_name_at}
use Rattle.spelling_model.specs.LineSpelling.{resource_fields}
use Rattle.spelling_model.proofs.Read.{bind_ok, same_ok, count_ok, count_from_ok, first_one, first_two}
use Rattle.spelling_model.proofs.Numbers.{u16_takes, u32_takes, all_takes}
use Rattle.spelling_model.proofs.Words.{format_takes, program_takes, uniform_kind_takes, destination_takes}
use Rattle.spelling_model.proofs.Names.{IsPrefix, same_prefix, longer_prefix, texts, used_takes, optional_takes, create_takes}
use Rattle.spelling_model.proofs.Bytes.{hex_takes, source_takes}
use Rattle.spelling_model.proofs.Parts.{part_takes}
use Rattle.spelling_model.proofs.RectTakes.{rect_takes}

-- a line that is read is spelled by its fields, and the names grow by it at most
abbrev pub Takes : List BoundName → List Field → Named ResourceLine → Type 0
Takes names fs l = IsPrefix (texts names) (texts l.1) × ((all : List Field) → IsPrefix (texts l.1) all → fs ≡ resource_fields all l.0)

pub layout_takes : (names : List BoundName) (fs : List Field) (l : Named ResourceLine) → layout_form names fs ≡ Ok l → field fs 0 ≡ codes "layout" → Takes names fs l
layout_takes names fs l e word =
    let c = bind_ok (has_count_from 3 17 fs) _ l e in
    let n = bind_ok (create_name names false (field fs 1)) _ l c.2 in
    let parts = bind_ok (read_all part_field (drop 2 fs)) _ l n.2 in
    let made : (layout_line n.0.0 parts.0, n.0.1) ≡ l = same_ok parts.2 in
    let named = create_takes names false (field fs 1) n.0 n.1 in
    let rest : drop 2 fs ≡ map part_spelled parts.0 = all_takes part_field part_spelled part_takes (drop 2 fs) parts.0 parts.1 in
    let long : 2 ≤ length fs = omega (arith, count_from_ok 3 17 fs c.0 c.1) in
    subst (Takes names fs) made (
      named.0,
      λ all p.
          let s1 : field fs 1 ≡ name_at all n.0.0 = named.1 all p in
          first_two fs long ∙ (λ i. word i ∷ s1 i ∷ rest i),
    )

pub vertex_buffer_takes : (names : List BoundName) (fs : List Field) (l : Named ResourceLine) → vertex_buffer_form names fs ≡ Ok l → field fs 0 ≡ codes "vb" → Takes names fs l
vertex_buffer_takes names fs l e word =
    let c = bind_ok (has_count 4 fs) _ l e in
    let n = bind_ok (create_name names false (field fs 1)) _ l c.2 in
    let x2 = bind_ok (used_name names (field fs 2)) _ l n.2 in
    let x3 = bind_ok (hex_bytes (field fs 3)) _ l x2.2 in
    let made : (vertex_buffer_line n.0.0 x2.0 x3.0, n.0.1) ≡ l = same_ok x3.2 in
    let named = create_takes names false (field fs 1) n.0 n.1 in
    subst (Takes names fs) made (
      named.0,
      λ all p.
          let old = longer_prefix (texts names) (texts n.0.1) all named.0 p in
          let s1 : field fs 1 ≡ name_at all n.0.0 = named.1 all p in
          let s2 : field fs 2 ≡ name_at all x2.0 = used_takes names (field fs 2) x2.0 x2.1 all old in
          let s3 : field fs 3 ≡ hex_field x3.0 = hex_takes (field fs 3) x3.0 x3.1 in
          count_ok 4 fs c.0 c.1 ∙ (λ i. word i ∷ s1 i ∷ s2 i ∷ s3 i ∷ []),
    )

pub index_buffer_takes : (names : List BoundName) (fs : List Field) (l : Named ResourceLine) → index_buffer_form names fs ≡ Ok l → field fs 0 ≡ codes "ib" → Takes names fs l
index_buffer_takes names fs l e word =
    let c = bind_ok (has_count 3 fs) _ l e in
    let n = bind_ok (create_name names false (field fs 1)) _ l c.2 in
    let x2 = bind_ok (hex_bytes (field fs 2)) _ l n.2 in
    let made : (index_buffer_line n.0.0 x2.0, n.0.1) ≡ l = same_ok x2.2 in
    let named = create_takes names false (field fs 1) n.0 n.1 in
    subst (Takes names fs) made (
      named.0,
      λ all p.
          let s1 : field fs 1 ≡ name_at all n.0.0 = named.1 all p in
          let s2 : field fs 2 ≡ hex_field x2.0 = hex_takes (field fs 2) x2.0 x2.1 in
          count_ok 3 fs c.0 c.1 ∙ (λ i. word i ∷ s1 i ∷ s2 i ∷ []),
    )

pub texture_takes : (names : List BoundName) (fs : List Field) (l : Named ResourceLine) → texture_form names fs ≡ Ok l → field fs 0 ≡ codes "texture" → Takes names fs l
texture_takes names fs l e word =
    let c = bind_ok (has_count 7 fs) _ l e in
    let n = bind_ok (create_name names false (field fs 1)) _ l c.2 in
    let x2 = bind_ok (u16_number (field fs 2)) _ l n.2 in
    let x3 = bind_ok (u16_number (field fs 3)) _ l x2.2 in
    let x4 = bind_ok (word_in formats (field fs 4)) _ l x3.2 in
    let x5 = bind_ok (word_in destinations (field fs 5)) _ l x4.2 in
    let x6 = bind_ok (source_field (field fs 6)) _ l x5.2 in
    let made : (texture_line n.0.0 x2.0 x3.0 x4.0 x5.0 x6.0, n.0.1) ≡ l = same_ok x6.2 in
    let named = create_takes names false (field fs 1) n.0 n.1 in
    subst (Takes names fs) made (
      named.0,
      λ all p.
          let s1 : field fs 1 ≡ name_at all n.0.0 = named.1 all p in
          let s2 : field fs 2 ≡ decimal x2.0 = u16_takes (field fs 2) x2.0 x2.1 in
          let s3 : field fs 3 ≡ decimal x3.0 = u16_takes (field fs 3) x3.0 x3.1 in
          let s4 : field fs 4 ≡ format_word x4.0 = format_takes (field fs 4) x4.0 x4.1 in
          let s5 : field fs 5 ≡ destination_word x5.0 = destination_takes (field fs 5) x5.0 x5.1 in
          let s6 : field fs 6 ≡ source_spelled x6.0 = source_takes (field fs 6) x6.0 x6.1 in
          count_ok 7 fs c.0 c.1 ∙ (λ i. word i ∷ s1 i ∷ s2 i ∷ s3 i ∷ s4 i ∷ s5 i ∷ s6 i ∷ []),
    )

pub frame_buffer_takes : (names : List BoundName) (fs : List Field) (l : Named ResourceLine) → frame_buffer_form names fs ≡ Ok l → field fs 0 ≡ codes "fb" → Takes names fs l
frame_buffer_takes names fs l e word =
    let c = bind_ok (has_count 4 fs) _ l e in
    let n = bind_ok (create_name names false (field fs 1)) _ l c.2 in
    let x2 = bind_ok (used_name names (field fs 2)) _ l n.2 in
    let x3 = bind_ok (optional_name names (field fs 3)) _ l x2.2 in
    let made : (frame_buffer_line n.0.0 x2.0 x3.0, n.0.1) ≡ l = same_ok x3.2 in
    let named = create_takes names false (field fs 1) n.0 n.1 in
    subst (Takes names fs) made (
      named.0,
      λ all p.
          let old = longer_prefix (texts names) (texts n.0.1) all named.0 p in
          let s1 : field fs 1 ≡ name_at all n.0.0 = named.1 all p in
          let s2 : field fs 2 ≡ name_at all x2.0 = used_takes names (field fs 2) x2.0 x2.1 all old in
          let s3 : field fs 3 ≡ optional_name_at all x3.0 = optional_takes names (field fs 3) x3.0 x3.1 all old in
          count_ok 4 fs c.0 c.1 ∙ (λ i. word i ∷ s1 i ∷ s2 i ∷ s3 i ∷ []),
    )

pub program_line_takes : (names : List BoundName) (fs : List Field) (l : Named ResourceLine) → program_form whole_language names fs ≡ Ok l → field fs 0 ≡ codes "program" → Takes names fs l
program_line_takes names fs l e word =
    let c = bind_ok (has_count 3 fs) _ l e in
    let n = bind_ok (create_name names false (field fs 1)) _ l c.2 in
    let x2 = bind_ok (word_in programs (field fs 2)) _ l n.2 in
    let made : (program_line n.0.0 x2.0, n.0.1) ≡ l = same_ok x2.2 in
    let named = create_takes names false (field fs 1) n.0 n.1 in
    subst (Takes names fs) made (
      named.0,
      λ all p.
          let s1 : field fs 1 ≡ name_at all n.0.0 = named.1 all p in
          let s2 : field fs 2 ≡ field_spelling.program_word x2.0 = program_takes (field fs 2) x2.0 x2.1 in
          count_ok 3 fs c.0 c.1 ∙ (λ i. word i ∷ s1 i ∷ s2 i ∷ []),
    )

pub uniform_line_takes : (names : List BoundName) (fs : List Field) (l : Named ResourceLine) → uniform_form whole_language names fs ≡ Ok l → field fs 0 ≡ codes "uniform" → Takes names fs l
uniform_line_takes names fs l e word =
    let c = bind_ok (has_count 3 fs) _ l e in
    let n = bind_ok (create_name names true (field fs 1)) _ l c.2 in
    let x2 = bind_ok (word_in uniform_kinds (field fs 2)) _ l n.2 in
    let made : (uniform_line n.0.0 x2.0, n.0.1) ≡ l = same_ok x2.2 in
    let named = create_takes names true (field fs 1) n.0 n.1 in
    subst (Takes names fs) made (
      named.0,
      λ all p.
          let s1 : field fs 1 ≡ name_at all n.0.0 = named.1 all p in
          let s2 : field fs 2 ≡ uniform_kind_word x2.0 = uniform_kind_takes (field fs 2) x2.0 x2.1 in
          count_ok 3 fs c.0 c.1 ∙ (λ i. word i ∷ s1 i ∷ s2 i ∷ []),
    )

pub update_takes : (names : List BoundName) (fs : List Field) (l : Named ResourceLine) → update_form names fs ≡ Ok l → field fs 0 ≡ codes "update" → Takes names fs l
update_takes names fs l e word =
    let c = bind_ok (has_count 4 fs) _ l e in
    let x1 = bind_ok (used_name names (field fs 1)) _ l c.2 in
    let x2 = bind_ok (u32_number (field fs 2)) _ l x1.2 in
    let x3 = bind_ok (hex_bytes (field fs 3)) _ l x2.2 in
    let made : (update_line x1.0 x2.0 x3.0, names) ≡ l = same_ok x3.2 in
    subst (Takes names fs) made (
      same_prefix (texts names),
      λ all old.
          let s1 : field fs 1 ≡ name_at all x1.0 = used_takes names (field fs 1) x1.0 x1.1 all old in
          let s2 : field fs 2 ≡ decimal x2.0 = u32_takes (field fs 2) x2.0 x2.1 in
          let s3 : field fs 3 ≡ hex_field x3.0 = hex_takes (field fs 3) x3.0 x3.1 in
          count_ok 4 fs c.0 c.1 ∙ (λ i. word i ∷ s1 i ∷ s2 i ∷ s3 i ∷ []),
    )

pub texel_update_takes : (names : List BoundName) (fs : List Field) (l : Named ResourceLine) → texel_update_form names fs ≡ Ok l → field fs 0 ≡ codes "texupdate" → Takes names fs l
texel_update_takes names fs l e word =
    let c = bind_ok (has_count 7 fs) _ l e in
    let x1 = bind_ok (used_name names (field fs 1)) _ l c.2 in
    let x2 = bind_ok (rect_fields fs 2) _ l x1.2 in
    let x6 = bind_ok (hex_bytes (field fs 6)) _ l x2.2 in
    let made : (texel_update_line x1.0 x2.0 x6.0, names) ≡ l = same_ok x6.2 in
    subst (Takes names fs) made (
      same_prefix (texts names),
      λ all old.
          let s1 : field fs 1 ≡ name_at all x1.0 = used_takes names (field fs 1) x1.0 x1.1 all old in
          let s2 : field fs 2 ≡ decimal x2.0.x = (rect_takes fs 2 x2.0 x2.1).0 in
          let s3 : field fs 3 ≡ decimal x2.0.y = (rect_takes fs 2 x2.0 x2.1).1 in
          let s4 : field fs 4 ≡ decimal x2.0.w = (rect_takes fs 2 x2.0 x2.1).2 in
          let s5 : field fs 5 ≡ decimal x2.0.h = (rect_takes fs 2 x2.0 x2.1).3 in
          let s6 : field fs 6 ≡ hex_field x6.0 = hex_takes (field fs 6) x6.0 x6.1 in
          count_ok 7 fs c.0 c.1 ∙ (λ i. word i ∷ s1 i ∷ s2 i ∷ s3 i ∷ s4 i ∷ s5 i ∷ s6 i ∷ []),
    )

pub destroy_takes : (names : List BoundName) (fs : List Field) (l : Named ResourceLine) → destroy_form names fs ≡ Ok l → field fs 0 ≡ codes "destroy" → Takes names fs l
destroy_takes names fs l e word =
    let c = bind_ok (has_count 2 fs) _ l e in
    let x1 = bind_ok (used_name names (field fs 1)) _ l c.2 in
    let made : (destroy_line x1.0, names) ≡ l = same_ok x1.2 in
    subst (Takes names fs) made (
      same_prefix (texts names),
      λ all old.
          let s1 : field fs 1 ≡ name_at all x1.0 = used_takes names (field fs 1) x1.0 x1.1 all old in
          count_ok 2 fs c.0 c.1 ∙ (λ i. word i ∷ s1 i ∷ []),
    )

pub order_takes : (views : ℕ) (names : List BoundName) (fs : List Field) (l : Named ResourceLine) → order_form views names fs ≡ Ok l → field fs 0 ≡ codes "order" → Takes names fs l
order_takes views names fs l e word =
    let c = bind_ok (has_count_from 1 (1 + views) fs) _ l e in
    let ids = bind_ok (read_all u16_number (drop 1 fs)) _ l c.2 in
    let made : (order_line ids.0, names) ≡ l = same_ok ids.2 in
    let rest : drop 1 fs ≡ map decimal ids.0 = all_takes u16_number decimal u16_takes (drop 1 fs) ids.0 ids.1 in
    let long = count_from_ok 1 (1 + views) fs c.0 c.1 in
    subst (Takes names fs) made (same_prefix (texts names), λ all old. first_one fs long ∙ (λ i. word i ∷ rest i))
