-- A `view` line that is read is spelled by its fields.
use Rattle.std.proofs.Common.{◌≡◌, ℕ, ◌≤◌, List, [], ◌∷◌, map, drop, length, Ok, ap, subst, ◌∙◌, arith}
use Rattle.std.specs.Prelude.{codes}
use Rattle.std.specs.Fmt.{decimal, signed_decimal}
use Rattle.scene_model.specs.Scene.{ResourceLine, rect_line, view_scissor_line, clear_line, mode_line, target_line, view_transform_line, reset_line}
use Rattle.scene_model.specs.Field.{BoundName, u16_number, i32_number, read_all, word_in, modes, optional_name}
use Rattle.scene_model.specs.Grammar.{Field, field, Named, has_count, has_field, are_filled, rect_fields, clear_fields, Setting, rect_setting, scissor_setting, clear_setting, mode_setting, target_setting, transform_setting, reset_setting, settings, setting_form, view_form, whole_language}
use Rattle.spelling_model.specs.FieldSpelling.{mode_word, color_spelled, optional_name_at}
use Rattle.spelling_model.specs.LineSpelling.{resource_fields}
use Rattle.spelling_model.proofs.Read.{bind_ok, same_ok, count_ok, count_length, first_three}
use Rattle.spelling_model.proofs.Numbers.{u16_takes, i32_takes, all_takes}
use Rattle.spelling_model.proofs.Words.{mode_takes, setting_text, setting_takes}
use Rattle.spelling_model.proofs.Names.{IsPrefix, same_prefix, texts, optional_takes}
use Rattle.spelling_model.proofs.RectTakes.{rect_takes, clear_takes}
use Rattle.spelling_model.proofs.ResourceTakes.{Takes}

-- behind the view and the setting's word, the fields are those of the line
abbrev SettingTakes : List BoundName → List Field → ℕ → Field → ResourceLine → Type 0
SettingTakes names fs v setting l = field fs 0 ≡ codes "view" → field fs 1 ≡ decimal v → field fs 2 ≡ setting → (all : List Field) → IsPrefix (texts names) all → fs ≡ resource_fields all l

rect_line_takes : (names : List BoundName) (fs : List Field) (v : ℕ) (l : ResourceLine) → setting_form names fs v rect_setting ≡ Ok l → SettingTakes names fs v (codes "rect") l
rect_line_takes names fs v l e word view setting all old =
    let c = bind_ok (has_count 7 fs) _ l e in
    let x3 = bind_ok (rect_fields fs 3) _ l c.2 in
    let made : rect_line v x3.0 ≡ l = same_ok x3.2 in
    let s3 : field fs 3 ≡ decimal x3.0.x = (rect_takes fs 3 x3.0 x3.1).0 in
    let s4 : field fs 4 ≡ decimal x3.0.y = (rect_takes fs 3 x3.0 x3.1).1 in
    let s5 : field fs 5 ≡ decimal x3.0.w = (rect_takes fs 3 x3.0 x3.1).2 in
    let s6 : field fs 6 ≡ decimal x3.0.h = (rect_takes fs 3 x3.0 x3.1).3 in
    count_ok 7 fs c.0 c.1 ∙ (λ i. word i ∷ view i ∷ setting i ∷ s3 i ∷ s4 i ∷ s5 i ∷ s6 i ∷ []) ∙ ap (resource_fields all) made

scissor_line_takes : (names : List BoundName) (fs : List Field) (v : ℕ) (l : ResourceLine) → setting_form names fs v scissor_setting ≡ Ok l → SettingTakes names fs v (codes "scissor") l
scissor_line_takes names fs v l e word view setting all old =
    let c = bind_ok (has_count 7 fs) _ l e in
    let x3 = bind_ok (rect_fields fs 3) _ l c.2 in
    let made : view_scissor_line v x3.0 ≡ l = same_ok x3.2 in
    let s3 : field fs 3 ≡ decimal x3.0.x = (rect_takes fs 3 x3.0 x3.1).0 in
    let s4 : field fs 4 ≡ decimal x3.0.y = (rect_takes fs 3 x3.0 x3.1).1 in
    let s5 : field fs 5 ≡ decimal x3.0.w = (rect_takes fs 3 x3.0 x3.1).2 in
    let s6 : field fs 6 ≡ decimal x3.0.h = (rect_takes fs 3 x3.0 x3.1).3 in
    count_ok 7 fs c.0 c.1 ∙ (λ i. word i ∷ view i ∷ setting i ∷ s3 i ∷ s4 i ∷ s5 i ∷ s6 i ∷ []) ∙ ap (resource_fields all) made

clear_line_takes : (names : List BoundName) (fs : List Field) (v : ℕ) (l : ResourceLine) → setting_form names fs v clear_setting ≡ Ok l → SettingTakes names fs v (codes "clear") l
clear_line_takes names fs v l e word view setting all old =
    let c = bind_ok (has_count 7 fs) _ l e in
    let x3 = bind_ok (clear_fields fs) _ l c.2 in
    let made : clear_line v x3.0 ≡ l = same_ok x3.2 in
    let s3 : field fs 3 ≡ decimal x3.0.flags = (clear_takes fs x3.0 x3.1).0 in
    let s4 : field fs 4 ≡ color_spelled x3.0.color = (clear_takes fs x3.0 x3.1).1 in
    let s5 : field fs 5 ≡ decimal x3.0.depth = (clear_takes fs x3.0 x3.1).2 in
    let s6 : field fs 6 ≡ decimal x3.0.stencil = (clear_takes fs x3.0 x3.1).3 in
    count_ok 7 fs c.0 c.1 ∙ (λ i. word i ∷ view i ∷ setting i ∷ s3 i ∷ s4 i ∷ s5 i ∷ s6 i ∷ []) ∙ ap (resource_fields all) made

mode_line_takes : (names : List BoundName) (fs : List Field) (v : ℕ) (l : ResourceLine) → setting_form names fs v mode_setting ≡ Ok l → SettingTakes names fs v (codes "mode") l
mode_line_takes names fs v l e word view setting all old =
    let c = bind_ok (has_count 4 fs) _ l e in
    let x3 = bind_ok (word_in modes (field fs 3)) _ l c.2 in
    let made : mode_line v x3.0 ≡ l = same_ok x3.2 in
    let s3 : field fs 3 ≡ mode_word x3.0 = mode_takes (field fs 3) x3.0 x3.1 in
    count_ok 4 fs c.0 c.1 ∙ (λ i. word i ∷ view i ∷ setting i ∷ s3 i ∷ []) ∙ ap (resource_fields all) made

target_line_takes : (names : List BoundName) (fs : List Field) (v : ℕ) (l : ResourceLine) → setting_form names fs v target_setting ≡ Ok l → SettingTakes names fs v (codes "target") l
target_line_takes names fs v l e word view setting all old =
    let c = bind_ok (has_count 4 fs) _ l e in
    let x3 = bind_ok (optional_name names (field fs 3)) _ l c.2 in
    let made : target_line v x3.0 ≡ l = same_ok x3.2 in
    let s3 : field fs 3 ≡ optional_name_at all x3.0 = optional_takes names (field fs 3) x3.0 x3.1 all old in
    count_ok 4 fs c.0 c.1 ∙ (λ i. word i ∷ view i ∷ setting i ∷ s3 i ∷ []) ∙ ap (resource_fields all) made

transform_line_takes : (names : List BoundName) (fs : List Field) (v : ℕ) (l : ResourceLine) → setting_form names fs v transform_setting ≡ Ok l → SettingTakes names fs v (codes "transform") l
transform_line_takes names fs v l e word view setting all old =
    let c = bind_ok (has_count 15 fs) _ l e in
    let m = bind_ok (read_all i32_number (drop 3 fs)) _ l c.2 in
    let made : view_transform_line v m.0 ≡ l = same_ok m.2 in
    let rest : drop 3 fs ≡ map signed_decimal m.0 = all_takes i32_number signed_decimal i32_takes (drop 3 fs) m.0 m.1 in
    let long : 3 ≤ length fs = omega (arith, count_length 15 fs c.0 c.1) in
    first_three fs long ∙ (λ i. word i ∷ view i ∷ setting i ∷ rest i) ∙ ap (resource_fields all) made

reset_line_takes : (names : List BoundName) (fs : List Field) (v : ℕ) (l : ResourceLine) → setting_form names fs v reset_setting ≡ Ok l → SettingTakes names fs v (codes "reset") l
reset_line_takes names fs v l e word view setting all old =
    let c = bind_ok (has_count 3 fs) _ l e in
    let made : reset_line v ≡ l = same_ok c.2 in
    count_ok 3 fs c.0 c.1 ∙ (λ i. word i ∷ view i ∷ setting i ∷ []) ∙ ap (resource_fields all) made

-- the values behind a setting's word
values_take : (names : List BoundName) (fs : List Field) (v : ℕ) (s : Setting) (l : ResourceLine) → setting_form names fs v s ≡ Ok l → SettingTakes names fs v (setting_text s) l
values_take names fs v rect_setting l e word view setting all old = rect_line_takes names fs v l e word view setting all old
values_take names fs v scissor_setting l e word view setting all old = scissor_line_takes names fs v l e word view setting all old
values_take names fs v clear_setting l e word view setting all old = clear_line_takes names fs v l e word view setting all old
values_take names fs v mode_setting l e word view setting all old = mode_line_takes names fs v l e word view setting all old
values_take names fs v target_setting l e word view setting all old = target_line_takes names fs v l e word view setting all old
values_take names fs v transform_setting l e word view setting all old = transform_line_takes names fs v l e word view setting all old
values_take names fs v reset_setting l e word view setting all old = reset_line_takes names fs v l e word view setting all old

pub view_takes : (names : List BoundName) (fs : List Field) (l : Named ResourceLine) → view_form whole_language names fs ≡ Ok l → field fs 0 ≡ codes "view" → Takes names fs l
view_takes names fs l e word =
    let a = bind_ok (has_field 1 fs) _ l e in
    let v = bind_ok (u16_number (field fs 1)) _ l a.2 in
    let b = bind_ok (has_field 2 fs) _ l v.2 in
    let s = bind_ok (word_in settings (field fs 2)) _ l b.2 in
    let c = bind_ok (are_filled fs) _ l s.2 in
    let k = bind_ok (setting_form names fs v.0 s.0) _ l c.2 in
    let made : (k.0, names) ≡ l = same_ok k.2 in
    let view = u16_takes (field fs 1) v.0 v.1 in
    let setting = setting_takes (field fs 2) s.0 s.1 in
    subst (Takes names fs) made (same_prefix (texts names), λ all old. values_take names fs v.0 s.0 k.0 k.1 word view setting all old)
