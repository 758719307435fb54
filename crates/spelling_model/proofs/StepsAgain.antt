-- A spelled line is read behind the lines before it: resource lines, encoder lines and the lines of the order.
use Rattle.std.proofs.Common.{◌≡◌, ℕ, ◌≤◌, nat_lt, Bool, true, false, not, cond, bytes_eq, List, [], ◌∷◌, ◌++◌, map, length, length-append, Some, Ok, refl, ap, sym, ◌∙◌, arith, append_assoc}
use Rattle.std.specs.Prelude.{codes}
use Rattle.std.specs.List.{list_all, AllByRecursion}
use Rattle.std.proofs.lemmas.Bool.Decides.{nat_tests}
use Rattle.std.proofs.lemmas.List.{append-nil}
use Rattle.scene_model.specs.Scene.{ResourceLine, layout_line, vertex_buffer_line, index_buffer_line, texture_line, frame_buffer_line, program_line, uniform_line, update_line, texel_update_line, destroy_line, view_line, target_line, order_line, EncoderLine, state_line, stencil_line, scissor_line, transform_line, vertices_line, indices_line, transient_vertices_line, transient_indices_line, bind_line, set_line, submit_line, touch_line, blit_line, Block, SceneFrame, newest_version, views_in, view_line}
use Rattle.scene_model.specs.Field.{bad_byte, misplaced_word, unknown_version, BoundName, find_word}
use Rattle.scene_model.specs.Grammar.{Field, field, Word, words, whole_language, Stage, in_before, in_block, in_beside, is_resource_word, is_encoder_word, can_stand, Reading, with_names, with_resource_line, with_before_line, with_beside_line, with_encoder_line, on_last_frame, unless, is_text_byte, is_other_version, is_in_place, are_filled, are_filled_before, resource_form, encoder_form, after_resource, after_encoder_line, after_word, after_fields}
use Rattle.spelling_model.specs.LineSpelling.{resource_fields, encoder_fields}
use Rattle.spelling_model.specs.Readable.{bound_by, bound_by_lines, IsResourceLine, AreResourceLines, IsEncoderLine}
use Rattle.spelling_model.proofs.Growing.{grows, lines_grow}
use Rattle.spelling_model.proofs.ReadLines.{after_kept, read_fields}
use Rattle.spelling_model.proofs.SoFar.{moved, on_last-append}
use Rattle.spelling_model.proofs.FieldsAgain.{goes_on}
use Rattle.spelling_model.proofs.NamesAgain.{named, HasNames}
use Rattle.spelling_model.proofs.Spelled.{IsSpelled, is_visible, weaker, resource_spelled, encoder_spelled}
use Rattle.spelling_model.proofs.LinesAgain.{filled_again, resource_word, resource_again, encoder_line_word, encoder_again}

-- ---- a line that is kept

-- the word of a line, and the tests before its form
pub record IsPlain (w : Word) (fs : List Field) : Type 0 where
  pub found : find_word words (field fs 0) ≡ Some w
  pub not_other : is_other_version newest_version fs ≡ false
  pub filled : are_filled fs ≡ Ok true → are_filled_before w fs ≡ Ok true

visible_text : (b : ℕ) → is_visible b ≡ true → is_text_byte b ≡ true
visible_text b h = grind (arith, nat_tests, h)

texts_visible : (fs : List Field) → AllByRecursion IsSpelled fs → list_all (list_all is_text_byte) fs ≡ true
texts_visible [] h = refl
texts_visible (f ∷ fs) h = rw (weaker is_visible is_text_byte visible_text f h.0.0) (texts_visible fs h.1)

pub kept_again : (r : Reading) (fs : List Field) (w : Word) → AllByRecursion IsSpelled fs → IsPlain w fs → is_in_place r w fs ≡ true → after_kept r fs ≡ after_word whole_language r fs w
kept_again r fs w spelled plain place =
    goes_on (unless (list_all (list_all is_text_byte) fs) bad_byte) true _ (ap (λ t. unless t bad_byte) (texts_visible fs spelled))
    ∙ ap (after_fields whole_language r fs) plain.found
    ∙ goes_on (unless (not (is_other_version newest_version fs)) unknown_version) true _ (ap (λ t. unless (not t) unknown_version) plain.not_other)
    ∙ goes_on (unless (is_in_place r w fs) misplaced_word) true _ (ap (λ t. unless t misplaced_word) place)
    ∙ goes_on (are_filled_before w fs) true _ (plain.filled (filled_again fs spelled))

pub not_scene : (fs : List Field) → bytes_eq (codes "scene") (field fs 0) ≡ false → is_other_version newest_version fs ≡ false
not_scene [] h = refl
not_scene (w ∷ []) h = refl
not_scene (w ∷ n ∷ []) h = rw h refl
not_scene (w ∷ n ∷ m ∷ fs) h = refl

-- ---- resource lines

-- a resource line's word, and what is read behind it
record IsPlainResource (w : Word) (fs : List Field) : Type 0 where
  plain : IsPlain w fs
  resource : is_resource_word w ≡ true
  place : (r : Reading) → is_in_place r w fs ≡ can_stand r.stage w
  after : (r : Reading) → after_word whole_language r fs w ≡ after_resource whole_language r fs w

plain_resource : (all : List Field) (l : ResourceLine) → IsPlainResource (resource_word l) (resource_fields all l)
unfolding after_word
plain_resource all (layout_line n parts) = record { plain = record { found = refl; not_other = not_scene (resource_fields all (layout_line n parts)) refl; filled = λ e. e }; resource = refl; place = λ r. refl; after = λ r. refl }
plain_resource all (vertex_buffer_line n layout bytes) = record { plain = record { found = refl; not_other = not_scene (resource_fields all (vertex_buffer_line n layout bytes)) refl; filled = λ e. e }; resource = refl; place = λ r. refl; after = λ r. refl }
plain_resource all (index_buffer_line n bytes) = record { plain = record { found = refl; not_other = not_scene (resource_fields all (index_buffer_line n bytes)) refl; filled = λ e. e }; resource = refl; place = λ r. refl; after = λ r. refl }
plain_resource all (texture_line n width height format destination source) = record { plain = record { found = refl; not_other = not_scene (resource_fields all (texture_line n width height format destination source)) refl; filled = λ e. e }; resource = refl; place = λ r. refl; after = λ r. refl }
plain_resource all (frame_buffer_line n color depth) = record { plain = record { found = refl; not_other = not_scene (resource_fields all (frame_buffer_line n color depth)) refl; filled = λ e. e }; resource = refl; place = λ r. refl; after = λ r. refl }
plain_resource all (program_line n kind) = record { plain = record { found = refl; not_other = not_scene (resource_fields all (program_line n kind)) refl; filled = λ e. e }; resource = refl; place = λ r. refl; after = λ r. refl }
plain_resource all (uniform_line n kind) = record { plain = record { found = refl; not_other = not_scene (resource_fields all (uniform_line n kind)) refl; filled = λ e. e }; resource = refl; place = λ r. refl; after = λ r. refl }
plain_resource all (update_line n offset bytes) = record { plain = record { found = refl; not_other = not_scene (resource_fields all (update_line n offset bytes)) refl; filled = λ e. e }; resource = refl; place = λ r. refl; after = λ r. refl }
plain_resource all (texel_update_line n r bytes) = record { plain = record { found = refl; not_other = not_scene (resource_fields all (texel_update_line n r bytes)) refl; filled = λ e. e }; resource = refl; place = λ r. refl; after = λ r. refl }
plain_resource all (destroy_line n) = record { plain = record { found = refl; not_other = not_scene (resource_fields all (destroy_line n)) refl; filled = λ e. e }; resource = refl; place = λ r. refl; after = λ r. refl }
plain_resource all (view_line view c) = record { plain = record { found = refl; not_other = not_scene (resource_fields all (view_line view c)) refl; filled = λ e. refl }; resource = refl; place = λ r. refl; after = λ r. refl }
plain_resource all (target_line view target) = record { plain = record { found = refl; not_other = not_scene (resource_fields all (target_line view target)) refl; filled = λ e. refl }; resource = refl; place = λ r. refl; after = λ r. refl }
plain_resource all (order_line ids) = record { plain = record { found = refl; not_other = not_scene (resource_fields all (order_line ids)) refl; filled = λ e. e }; resource = refl; place = λ r. refl; after = λ r. refl }

before_place : (w : Word) → is_resource_word w ≡ true → can_stand in_before w ≡ true
before_place w h = rw h refl

beside_place : (w : Word) → is_resource_word w ≡ true → can_stand in_beside w ≡ true
beside_place w h = rw h refl

-- the reading inside a last frame
abbrev pub inside : Reading → Stage → List BoundName → List SceneFrame → SceneFrame → Reading
inside base st names closed f = moved base st names (closed ++ f ∷ [])

resource_line : (all : List Field) (bound : List Bool) (l : ResourceLine) (r : Reading) → HasNames all → length bound ≤ length all → length (bound_by bound l) ≤ length all → IsResourceLine (views_in r.version) bound l → r.names ≡ named all bound → can_stand r.stage (resource_word l) ≡ true
    → after_kept r (resource_fields all l) ≡ Ok (with_names (named all (bound_by bound l)) (with_resource_line l r))
unfolding after_resource
resource_line all bound l r h le grown k same place =
    let spelled = resource_spelled (views_in r.version) all bound l h le grown k in
    let own = plain_resource all l in
    kept_again r (resource_fields all l) (resource_word l) spelled own.plain (own.place r ∙ place)
    ∙ own.after r
    ∙ goes_on (resource_form whole_language (views_in r.version) r.names (resource_fields all l) (resource_word l)) (l, named all (bound_by bound l)) _
    (ap (λ names. resource_form whole_language (views_in r.version) names (resource_fields all l) (resource_word l)) same ∙ resource_again (views_in r.version) all bound l h le grown spelled k)

-- the lines before the drawing
pub before_again : (all : List Field) (base : Reading) (closed : List SceneFrame) (lines : List ResourceLine) (bound : List Bool) (f : SceneFrame) → HasNames all → length (bound_by_lines bound lines) ≤ length all → AreResourceLines (views_in base.version) bound lines
    → read_fields (inside base in_before (named all bound) closed f) (map (resource_fields all) lines) ≡ Ok (inside base in_before (named all (bound_by_lines bound lines)) closed (record f { before = f.before ++ lines }))
before_again all base closed [] bound f h le k = ap (λ b. Ok (inside base in_before (named all bound) closed (record f { before = b }))) (sym (append-nil f.before))
before_again all base closed (l ∷ lines) bound f h le k =
    let grown = lines_grow (bound_by bound l) lines in
    let own = grows bound l in
    let one : length (bound_by bound l) ≤ length all = omega (arith, grown, le) in
    let r = inside base in_before (named all bound) closed f in
    let step = resource_line all bound l r h (omega (arith, own, one)) one k.0 refl (before_place (resource_word l) (plain_resource all l).resource)
    ∙ ap (λ fs. Ok (moved base in_before (named all (bound_by bound l)) fs)) (on_last-append (with_before_line l) closed f) in
    goes_on (after_kept r (resource_fields all l)) (inside base in_before (named all (bound_by bound l)) closed (with_before_line l f)) _ step
    ∙ before_again all base closed lines (bound_by bound l) (with_before_line l f) h le k.1
    ∙ ap (λ b. Ok (inside base in_before (named all (bound_by_lines bound (l ∷ lines))) closed (record f { before = b }))) (append_assoc f.before (l ∷ []) lines)

-- the lines beside the drawing
pub beside_again : (all : List Field) (base : Reading) (closed : List SceneFrame) (lines : List ResourceLine) (bound : List Bool) (f : SceneFrame) → HasNames all → length (bound_by_lines bound lines) ≤ length all → AreResourceLines (views_in base.version) bound lines
    → read_fields (inside base in_beside (named all bound) closed f) (map (resource_fields all) lines) ≡ Ok (inside base in_beside (named all (bound_by_lines bound lines)) closed (record f { beside = f.beside ++ lines }))
beside_again all base closed [] bound f h le k = ap (λ b. Ok (inside base in_beside (named all bound) closed (record f { beside = b }))) (sym (append-nil f.beside))
beside_again all base closed (l ∷ lines) bound f h le k =
    let grown = lines_grow (bound_by bound l) lines in
    let own = grows bound l in
    let one : length (bound_by bound l) ≤ length all = omega (arith, grown, le) in
    let r = inside base in_beside (named all bound) closed f in
    let step = resource_line all bound l r h (omega (arith, own, one)) one k.0 refl (beside_place (resource_word l) (plain_resource all l).resource)
    ∙ ap (λ fs. Ok (moved base in_beside (named all (bound_by bound l)) fs)) (on_last-append (with_beside_line l) closed f) in
    goes_on (after_kept r (resource_fields all l)) (inside base in_beside (named all (bound_by bound l)) closed (with_beside_line l f)) _ step
    ∙ beside_again all base closed lines (bound_by bound l) (with_beside_line l f) h le k.1
    ∙ ap (λ b. Ok (inside base in_beside (named all (bound_by_lines bound (l ∷ lines))) closed (record f { beside = b }))) (append_assoc f.beside (l ∷ []) lines)

-- ---- encoder lines

record IsPlainLine (w : Word) (fs : List Field) : Type 0 where
  plain : IsPlain w fs
  encoder : is_encoder_word w ≡ true
  place : (r : Reading) → is_in_place r w fs ≡ can_stand r.stage w
  after : (r : Reading) → after_word whole_language r fs w ≡ after_encoder_line r fs w

plain_line : (all : List Field) (l : EncoderLine) → IsPlainLine (encoder_line_word l) (encoder_fields all l)
unfolding after_word
plain_line all (state_line word) = record { plain = record { found = refl; not_other = not_scene (encoder_fields all (state_line word)) refl; filled = λ e. e }; encoder = refl; place = λ r. refl; after = λ r. refl }
plain_line all (stencil_line front back) = record { plain = record { found = refl; not_other = not_scene (encoder_fields all (stencil_line front back)) refl; filled = λ e. e }; encoder = refl; place = λ r. refl; after = λ r. refl }
plain_line all (scissor_line r) = record { plain = record { found = refl; not_other = not_scene (encoder_fields all (scissor_line r)) refl; filled = λ e. e }; encoder = refl; place = λ r. refl; after = λ r. refl }
plain_line all (transform_line m) = record { plain = record { found = refl; not_other = not_scene (encoder_fields all (transform_line m)) refl; filled = λ e. e }; encoder = refl; place = λ r. refl; after = λ r. refl }
plain_line all (vertices_line n first count) = record { plain = record { found = refl; not_other = not_scene (encoder_fields all (vertices_line n first count)) refl; filled = λ e. e }; encoder = refl; place = λ r. refl; after = λ r. refl }
plain_line all (indices_line n first count) = record { plain = record { found = refl; not_other = not_scene (encoder_fields all (indices_line n first count)) refl; filled = λ e. e }; encoder = refl; place = λ r. refl; after = λ r. refl }
plain_line all (transient_vertices_line layout bytes) = record { plain = record { found = refl; not_other = not_scene (encoder_fields all (transient_vertices_line layout bytes)) refl; filled = λ e. e }; encoder = refl; place = λ r. refl; after = λ r. refl }
plain_line all (transient_indices_line bytes) = record { plain = record { found = refl; not_other = not_scene (encoder_fields all (transient_indices_line bytes)) refl; filled = λ e. e }; encoder = refl; place = λ r. refl; after = λ r. refl }
plain_line all (bind_line stage texture) = record { plain = record { found = refl; not_other = not_scene (encoder_fields all (bind_line stage texture)) refl; filled = λ e. e }; encoder = refl; place = λ r. refl; after = λ r. refl }
plain_line all (set_line n value) = record { plain = record { found = refl; not_other = not_scene (encoder_fields all (set_line n value)) refl; filled = λ e. e }; encoder = refl; place = λ r. refl; after = λ r. refl }
plain_line all (submit_line view n depth flags) = record { plain = record { found = refl; not_other = not_scene (encoder_fields all (submit_line view n depth flags)) refl; filled = λ e. e }; encoder = refl; place = λ r. refl; after = λ r. refl }
plain_line all (touch_line view) = record { plain = record { found = refl; not_other = not_scene (encoder_fields all (touch_line view)) refl; filled = λ e. e }; encoder = refl; place = λ r. refl; after = λ r. refl }
plain_line all (blit_line view destination dx dy source sx sy w h) = record { plain = record { found = refl; not_other = not_scene (encoder_fields all (blit_line view destination dx dy source sx sy w h)) refl; filled = λ e. e }; encoder = refl; place = λ r. refl; after = λ r. refl }

block_place : (w : Word) → is_encoder_word w ≡ true → can_stand in_block w ≡ true
block_place w h = rw h refl

encoder_line : (all : List Field) (bound : List Bool) (l : EncoderLine) (r : Reading) → HasNames all → length bound ≤ length all → IsEncoderLine bound l → r.names ≡ named all bound → can_stand r.stage (encoder_line_word l) ≡ true
    → after_kept r (encoder_fields all l) ≡ Ok (on_last_frame (with_encoder_line l) r)
unfolding after_encoder_line
encoder_line all bound l r h le k same place =
    let own = plain_line all l in
    kept_again r (encoder_fields all l) (encoder_line_word l) (encoder_spelled all bound l h le k) own.plain (own.place r ∙ place)
    ∙ own.after r
    ∙ goes_on (encoder_form r.names (encoder_fields all l) (encoder_line_word l)) l _ (ap (λ names. encoder_form names (encoder_fields all l) (encoder_line_word l)) same ∙ encoder_again all bound l h le k)

-- the frame with a last block
abbrev pub with_last : SceneFrame → List Block → ℕ → List EncoderLine → SceneFrame
with_last f done e lines = record f { blocks = done ++ record { encoder = e; lines = lines } ∷ [] }

-- the lines of a block
pub encoder_lines_again : (all : List Field) (bound : List Bool) (base : Reading) (closed : List SceneFrame) (f : SceneFrame) (done : List Block) (e : ℕ) (lines behind : List EncoderLine) → HasNames all → length bound ≤ length all → AllByRecursion (IsEncoderLine bound) lines
    → read_fields (inside base in_block (named all bound) closed (with_last f done e behind)) (map (encoder_fields all) lines) ≡ Ok (inside base in_block (named all bound) closed (with_last f done e (behind ++ lines)))
encoder_lines_again all bound base closed f done e [] behind h le k = ap (λ ls. Ok (inside base in_block (named all bound) closed (with_last f done e ls))) (sym (append-nil behind))
encoder_lines_again all bound base closed f done e (l ∷ lines) behind h le k =
    let b : Block = record { encoder = e; lines = behind } in
    let r = inside base in_block (named all bound) closed (with_last f done e behind) in
    let step = encoder_line all bound l r h le k.0 refl (block_place (encoder_line_word l) (plain_line all l).encoder)
    ∙ ap (λ fs. Ok (moved base in_block (named all bound) fs)) (on_last-append (with_encoder_line l) closed (with_last f done e behind))
    ∙ ap (λ bs. Ok (inside base in_block (named all bound) closed (record f { blocks = bs }))) (on_last-append (λ b. record b { lines = b.lines ++ l ∷ [] }) done b) in
    goes_on (after_kept r (encoder_fields all l)) (inside base in_block (named all bound) closed (with_last f done e (behind ++ l ∷ []))) _ step
    ∙ encoder_lines_again all bound base closed f done e lines (behind ++ l ∷ []) h le k.1
    ∙ ap (λ ls. Ok (inside base in_block (named all bound) closed (with_last f done e ls))) (append_assoc behind (l ∷ []) lines)
