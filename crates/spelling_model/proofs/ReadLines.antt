-- Any line more, and all lines of a text: what is read is spelled.
use Rattle.std.proofs.Common.{◌≡◌, true, not, List, [], ◌∷◌, ◌++◌, Option, Some, None, Ok, refl, subst, sym, append_assoc}
use Rattle.std.specs.List.{list_all}
use Rattle.std.proofs.lemmas.List.{append-nil}
use Rattle.scene_model.specs.Scene.{newest_version, views_in}
use Rattle.scene_model.specs.Field.{Read, ◌>>=◌, bad_byte, misplaced_word, unknown_version, find_word}
use Rattle.scene_model.specs.Grammar.{Field, field, Word, scene_word, size_word, encoders_word, room_word, latency_word, frame_word, encoder_word, beside_word, done_word, journal_word, layout_word, vertex_buffer_word, index_buffer_word, texture_word, frame_buffer_word, program_word, uniform_word, update_word, texel_update_word, destroy_word, view_word, order_word, state_word, stencil_word, scissor_word, transform_word, vertices_word, indices_word, transient_vertices_word, transient_indices_word, bind_word, set_word, submit_word, touch_word, blit_word, words, whole_language, can_stand, says_latency, is_next_of, last_encoder, blocks_of_last, is_in_place, Reading, unless, is_text_byte, is_other_version, are_filled_before, after_word, after_fields}
use Rattle.spelling_model.proofs.Read.{bind_ok, same_ok, unless_ok, both}
use Rattle.spelling_model.proofs.Words.{word_text, word_takes}
use Rattle.spelling_model.proofs.Names.{IsPrefix, same_prefix, longer_prefix, texts}
use Rattle.spelling_model.proofs.ResourceTakes.{layout_takes, vertex_buffer_takes, index_buffer_takes, texture_takes, frame_buffer_takes, program_line_takes, uniform_line_takes, update_takes, texel_update_takes, destroy_takes, order_takes}
use Rattle.spelling_model.proofs.ViewTakes.{view_takes}
use Rattle.spelling_model.proofs.EncoderTakes.{state_takes, stencil_takes, scissor_takes, transform_takes, vertices_take, indices_take, transient_vertices_take, transient_indices_take, bind_takes, set_takes, submit_takes, touch_takes, blit_takes}
use Rattle.spelling_model.proofs.SoFar.{SoFar}
use Rattle.spelling_model.proofs.Steps.{StepTakes, scene_step, size_step, encoders_step, room_step, latency_step, frame_step, done_step}
use Rattle.spelling_model.proofs.FrameSteps.{block_step, beside_step, resource_step, encoder_step}

-- the reading behind a line that is not skipped, from its fields
abbrev pub after_kept : Reading → List Field → Read Reading
after_kept r fs = do
  _ ← unless (list_all (list_all is_text_byte) fs) bad_byte
  after_fields whole_language r fs (find_word words (field fs 0))

-- the reading behind several lines
abbrev pub read_fields : Reading → List (List Field) → Read Reading
read_fields r [] = Ok r
read_fields r (fs ∷ lines) = do
  q ← after_kept r fs
  read_fields q lines

word_step : (fs : List Field) (r q : Reading) (w : Word) → field fs 0 ≡ word_text w → is_in_place r w fs ≡ true → after_word whole_language r fs w ≡ Ok q → StepTakes fs r q
unfolding after_word
word_step fs r q scene_word word place e = scene_step fs r q e place word
word_step fs r q size_word word place e = size_step fs r q e place word
word_step fs r q encoders_word word place e = encoders_step fs r q e place word
word_step fs r q room_word word place e = room_step fs r q e place word
word_step fs r q latency_word word place e = let here = both (can_stand r.stage latency_word) (says_latency r.version) place in latency_step fs r q e here.0 here.1 word
word_step fs r q frame_word word place e = frame_step fs r q e place word
word_step fs r q encoder_word word place e = block_step fs r q e (both (can_stand r.stage encoder_word) (is_next_of r.encoders (last_encoder (blocks_of_last r.frames)) (field fs 1)) place).0 word
word_step fs r q beside_word word place e = beside_step fs r q e place word
word_step fs r q done_word word place e = done_step fs r q e place word
word_step fs r q journal_word word place e = absurd (cc e)
word_step fs r q layout_word word place e = resource_step fs r q layout_word (refl, refl, refl, refl, refl, refl, refl, refl, refl) (λ l k. layout_takes r.names fs l k word) e place
word_step fs r q vertex_buffer_word word place e = resource_step fs r q vertex_buffer_word (refl, refl, refl, refl, refl, refl, refl, refl, refl) (λ l k. vertex_buffer_takes r.names fs l k word) e place
word_step fs r q index_buffer_word word place e = resource_step fs r q index_buffer_word (refl, refl, refl, refl, refl, refl, refl, refl, refl) (λ l k. index_buffer_takes r.names fs l k word) e place
word_step fs r q texture_word word place e = resource_step fs r q texture_word (refl, refl, refl, refl, refl, refl, refl, refl, refl) (λ l k. texture_takes r.names fs l k word) e place
word_step fs r q frame_buffer_word word place e = resource_step fs r q frame_buffer_word (refl, refl, refl, refl, refl, refl, refl, refl, refl) (λ l k. frame_buffer_takes r.names fs l k word) e place
word_step fs r q program_word word place e = resource_step fs r q program_word (refl, refl, refl, refl, refl, refl, refl, refl, refl) (λ l k. program_line_takes r.names fs l k word) e place
word_step fs r q uniform_word word place e = resource_step fs r q uniform_word (refl, refl, refl, refl, refl, refl, refl, refl, refl) (λ l k. uniform_line_takes r.names fs l k word) e place
word_step fs r q update_word word place e = resource_step fs r q update_word (refl, refl, refl, refl, refl, refl, refl, refl, refl) (λ l k. update_takes r.names fs l k word) e place
word_step fs r q texel_update_word word place e = resource_step fs r q texel_update_word (refl, refl, refl, refl, refl, refl, refl, refl, refl) (λ l k. texel_update_takes r.names fs l k word) e place
word_step fs r q destroy_word word place e = resource_step fs r q destroy_word (refl, refl, refl, refl, refl, refl, refl, refl, refl) (λ l k. destroy_takes r.names fs l k word) e place
word_step fs r q view_word word place e = resource_step fs r q view_word (refl, refl, refl, refl, refl, refl, refl, refl, refl) (λ l k. view_takes r.names fs l k word) e place
word_step fs r q order_word word place e = resource_step fs r q order_word (refl, refl, refl, refl, refl, refl, refl, refl, refl) (λ l k. order_takes (views_in r.version) r.names fs l k word) e place
word_step fs r q state_word word place e = encoder_step fs r q state_word (refl, refl, refl, refl, refl, refl, refl, refl, refl) (λ l k. state_takes r.names fs l k word) e place
word_step fs r q stencil_word word place e = encoder_step fs r q stencil_word (refl, refl, refl, refl, refl, refl, refl, refl, refl) (λ l k. stencil_takes r.names fs l k word) e place
word_step fs r q scissor_word word place e = encoder_step fs r q scissor_word (refl, refl, refl, refl, refl, refl, refl, refl, refl) (λ l k. scissor_takes r.names fs l k word) e place
word_step fs r q transform_word word place e = encoder_step fs r q transform_word (refl, refl, refl, refl, refl, refl, refl, refl, refl) (λ l k. transform_takes r.names fs l k word) e place
word_step fs r q vertices_word word place e = encoder_step fs r q vertices_word (refl, refl, refl, refl, refl, refl, refl, refl, refl) (λ l k. vertices_take r.names fs l k word) e place
word_step fs r q indices_word word place e = encoder_step fs r q indices_word (refl, refl, refl, refl, refl, refl, refl, refl, refl) (λ l k. indices_take r.names fs l k word) e place
word_step fs r q transient_vertices_word word place e = encoder_step fs r q transient_vertices_word (refl, refl, refl, refl, refl, refl, refl, refl, refl) (λ l k. transient_vertices_take r.names fs l k word) e place
word_step fs r q transient_indices_word word place e = encoder_step fs r q transient_indices_word (refl, refl, refl, refl, refl, refl, refl, refl, refl) (λ l k. transient_indices_take r.names fs l k word) e place
word_step fs r q bind_word word place e = encoder_step fs r q bind_word (refl, refl, refl, refl, refl, refl, refl, refl, refl) (λ l k. bind_takes r.names fs l k word) e place
word_step fs r q set_word word place e = encoder_step fs r q set_word (refl, refl, refl, refl, refl, refl, refl, refl, refl) (λ l k. set_takes r.names fs l k word) e place
word_step fs r q submit_word word place e = encoder_step fs r q submit_word (refl, refl, refl, refl, refl, refl, refl, refl, refl) (λ l k. submit_takes r.names fs l k word) e place
word_step fs r q touch_word word place e = encoder_step fs r q touch_word (refl, refl, refl, refl, refl, refl, refl, refl, refl) (λ l k. touch_takes r.names fs l k word) e place
word_step fs r q blit_word word place e = encoder_step fs r q blit_word (refl, refl, refl, refl, refl, refl, refl, refl, refl) (λ l k. blit_takes r.names fs l k word) e place

pub kept_step : (fs : List Field) (r q : Reading) → after_kept r fs ≡ Ok q → StepTakes fs r q
kept_step fs r q e =
    let t = bind_ok (unless (list_all (list_all is_text_byte) fs) bad_byte) _ q e in
    by (find_word words (field fs 0)) refl t.2
  where
    by : (o : Option Word) → find_word words (field fs 0) ≡ o → after_fields whole_language r fs o ≡ Ok q → StepTakes fs r q
    by None h e = absurd (cc e)
    by (Some w) h e =
        let v = bind_ok (unless (not (is_other_version newest_version fs)) unknown_version) _ q e in
        let place = bind_ok (unless (is_in_place r w fs) misplaced_word) _ q v.2 in
        let filled = bind_ok (are_filled_before w fs) _ q place.2 in
        word_step fs r q w (word_takes (field fs 0) w h) (unless_ok (is_in_place r w fs) misplaced_word place.0 place.1) filled.2

-- from one reading to a later one: the names grow, and the lines between them are those that the later one has more
pub read_steps : (lines : List (List Field)) (r q : Reading) → read_fields r lines ≡ Ok q
    → IsPrefix (texts r.names) (texts q.names) × ((all : List Field) → IsPrefix (texts q.names) all → (p : List (List Field)) → SoFar all p r r.stage → SoFar all (p ++ lines) q q.stage)
read_steps [] r q e =
    let made : r ≡ q = same_ok e in
    subst (λ q. IsPrefix (texts r.names) (texts q.names) × ((all : List Field) → IsPrefix (texts q.names) all → (p : List (List Field)) → SoFar all p r r.stage → SoFar all (p ++ []) q q.stage)) made
    (same_prefix (texts r.names), λ all old p so. subst (λ k. SoFar all k r r.stage) (sym (append-nil p)) so)
read_steps (fs ∷ lines) r q e =
    let m = bind_ok (after_kept r fs) _ q e in
    let first = kept_step fs r m.0 m.1 in
    let rest = read_steps lines m.0 q m.2 in (
      longer_prefix (texts r.names) (texts m.0.names) (texts q.names) first.0 rest.0,
      λ all old p so.
          let here = first.1 all (longer_prefix (texts m.0.names) (texts q.names) all rest.0 old) p so in
          subst (λ k. SoFar all k q q.stage) (append_assoc p (fs ∷ []) lines) (rest.1 all old (p ++ fs ∷ []) here),
    )
