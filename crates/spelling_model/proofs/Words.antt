-- A word that is found in a table is spelled as its row says.
use Rattle.std.proofs.Common.{◌≡◌, ℕ, Bool, true, false, cond, bytes_eq, List, [], ◌∷◌, Option, Some, None, Ok, refl, ap, sym, ◌∙◌}
use Rattle.std.specs.Prelude.{codes}
use Rattle.std.specs.List.{list_all}
use Rattle.std.proofs.lemmas.Slice.Eq.{bytes_eq-Decides}
use Rattle.gfx_model.specs.Words.{Format, ProgramKind, UniformKind}
use Rattle.gfx_model.specs.Vertex.{Attribute, ComponentType}
use Rattle.gfx_model.specs.Views.{ViewMode}
use Rattle.scene_model.specs.Field.{find_word, word_in, or_misspelt, formats, programs, uniform_kinds, modes, destinations, attributes, component_types}
use Rattle.scene_model.specs.Grammar.{Field, words, settings, Word, scene_word, size_word, encoders_word, room_word, latency_word, frame_word, encoder_word, beside_word, done_word, journal_word, layout_word, vertex_buffer_word, index_buffer_word, texture_word, frame_buffer_word, program_word, uniform_word, update_word, texel_update_word, destroy_word, view_word, order_word, state_word, stencil_word, scissor_word, transform_word, vertices_word, indices_word, transient_vertices_word, transient_indices_word, bind_word, set_word, submit_word, touch_word, blit_word, Setting, rect_setting, scissor_setting, clear_setting, mode_setting, target_setting, transform_setting, reset_setting}
use Rattle.spelling_model.specs.FieldSpelling as field_spelling
use Rattle.spelling_model.proofs.Read.{both}

-- each row of a table has the text of its value
abbrev is_spelled_by : {A : Type 0} → (A → Field) → List (List ℕ × A) → Bool
is_spelled_by text table = list_all (λ row. bytes_eq row.0 (text row.1)) table

find_takes : {A : Type 0} (text : A → Field) (table : List (List ℕ × A)) → is_spelled_by text table ≡ true → (f : Field) (x : A) → find_word table f ≡ Some x → f ≡ text x
find_takes text [] s f x e = absurd (cc e)
find_takes text (w ∷ rest) s f x e =
    let t = both (bytes_eq w.0 (text w.1)) (is_spelled_by text rest) s in
    by (bytes_eq w.0 f) refl e (find_takes text rest t.1 f x) ((bytes_eq-Decides w.0 (text w.1)).0 t.0)
  where
    by : (b : Bool) → bytes_eq w.0 f ≡ b → cond b (Some w.1) (find_word rest f) ≡ Some x → (find_word rest f ≡ Some x → f ≡ text x) → w.0 ≡ text w.1 → f ≡ text x
    by true h e later s = let made : w.1 ≡ x = cc e in sym ((bytes_eq-Decides w.0 f).0 h) ∙ s ∙ ap text made
    by false h e later s = later e

in_takes : {A : Type 0} (text : A → Field) (table : List (List ℕ × A)) → is_spelled_by text table ≡ true → (f : Field) (x : A) → word_in table f ≡ Ok x → f ≡ text x
unfolding word_in
in_takes text table s f x e = by (find_word table f) refl e
  where
    by : (o : Option _) → find_word table f ≡ o → or_misspelt o ≡ Ok x → f ≡ text x
    by None h e = absurd (cc e)
    by (Some y) h e = let made : y ≡ x = cc e in find_takes text table s f y h ∙ ap text made

pub format_takes : (f : Field) (x : Format) → word_in formats f ≡ Ok x → f ≡ field_spelling.format_word x
format_takes f x e = in_takes field_spelling.format_word formats refl f x e

pub program_takes : (f : Field) (x : ProgramKind) → word_in programs f ≡ Ok x → f ≡ field_spelling.program_word x
program_takes f x e = in_takes field_spelling.program_word programs refl f x e

pub uniform_kind_takes : (f : Field) (x : UniformKind) → word_in uniform_kinds f ≡ Ok x → f ≡ field_spelling.uniform_kind_word x
uniform_kind_takes f x e = in_takes field_spelling.uniform_kind_word uniform_kinds refl f x e

pub mode_takes : (f : Field) (x : ViewMode) → word_in modes f ≡ Ok x → f ≡ field_spelling.mode_word x
mode_takes f x e = in_takes field_spelling.mode_word modes refl f x e

pub destination_takes : (f : Field) (x : Bool) → word_in destinations f ≡ Ok x → f ≡ field_spelling.destination_word x
destination_takes f x e = in_takes field_spelling.destination_word destinations refl f x e

pub attribute_takes : (f : Field) (x : Attribute) → word_in attributes f ≡ Ok x → f ≡ field_spelling.attribute_word x
attribute_takes f x e = in_takes field_spelling.attribute_word attributes refl f x e

pub component_takes : (f : Field) (x : ComponentType) → word_in component_types f ≡ Ok x → f ≡ field_spelling.component_word x
component_takes f x e = in_takes field_spelling.component_word component_types refl f x e

-- ---- the words of lines and of view settings

abbrev pub setting_text : Setting → Field
setting_text rect_setting = codes "rect"
setting_text scissor_setting = codes "scissor"
setting_text clear_setting = codes "clear"
setting_text mode_setting = codes "mode"
setting_text target_setting = codes "target"
setting_text transform_setting = codes "transform"
setting_text reset_setting = codes "reset"

pub setting_takes : (f : Field) (x : Setting) → word_in settings f ≡ Ok x → f ≡ setting_text x
setting_takes f x e = in_takes setting_text settings refl f x e

abbrev pub word_text : Word → Field
word_text scene_word = codes "scene"
word_text size_word = codes "size"
word_text encoders_word = codes "encoders"
word_text room_word = codes "room"
word_text latency_word = codes "latency"
word_text frame_word = codes "frame"
word_text encoder_word = codes "encoder"
word_text beside_word = codes "beside"
word_text done_word = codes "done"
word_text journal_word = codes "j"
word_text layout_word = codes "layout"
word_text vertex_buffer_word = codes "vb"
word_text index_buffer_word = codes "ib"
word_text texture_word = codes "texture"
word_text frame_buffer_word = codes "fb"
word_text program_word = codes "program"
word_text uniform_word = codes "uniform"
word_text update_word = codes "update"
word_text texel_update_word = codes "texupdate"
word_text destroy_word = codes "destroy"
word_text view_word = codes "view"
word_text order_word = codes "order"
word_text state_word = codes "state"
word_text stencil_word = codes "stencil"
word_text scissor_word = codes "scissor"
word_text transform_word = codes "transform"
word_text vertices_word = codes "vertices"
word_text indices_word = codes "indices"
word_text transient_vertices_word = codes "tvertices"
word_text transient_indices_word = codes "tindices"
word_text bind_word = codes "bind"
word_text set_word = codes "set"
word_text submit_word = codes "submit"
word_text touch_word = codes "touch"
word_text blit_word = codes "blit"

pub word_takes : (f : Field) (w : Word) → find_word words f ≡ Some w → f ≡ word_text w
word_takes f w e = find_takes word_text words refl f w e
