-- The stages behind spelled lines: within a frame and before its `beside` line a reading stands at a part of the drawing.
use Rattle.std.proofs.Common.{◌≡◌, ◌⊎◌, inr, nat_lt, ℕ, not, List, [], ◌∷◌, ◌++◌, map, length, Some, Ok, Err, refl, ap, subst, sym, ◌∙◌}
use Rattle.std.specs.Prelude.{codes, flat_map}
use Rattle.std.specs.Fmt.{decimal}
use Rattle.std.specs.List.{list_all}
use Rattle.gfx_model.specs.Recorder.{Room}
use Rattle.scene_model.specs.Scene.{ResourceLine, layout_line, vertex_buffer_line, index_buffer_line, texture_line, frame_buffer_line, program_line, uniform_line, update_line, texel_update_line, destroy_line, view_line, target_line, order_line, EncoderLine, state_line, stencil_line, scissor_line, transform_line, vertices_line, indices_line, transient_vertices_line, transient_indices_line, bind_line, set_line, submit_line, touch_line, blit_line, Block, newest_version, views_in, view_line}
use Rattle.scene_model.specs.Field.{Read, ◌>>=◌, bad_byte, misplaced_word, unknown_version, out_of_range, find_word, u8_number, number_in}
use Rattle.scene_model.specs.Grammar.{Field, field, Word, scene_word, size_word, encoders_word, room_word, frame_word, encoder_word, layout_word, vertex_buffer_word, index_buffer_word, texture_word, frame_buffer_word, program_word, uniform_word, update_word, texel_update_word, destroy_word, view_word, order_word, state_word, stencil_word, scissor_word, transform_word, vertices_word, indices_word, transient_vertices_word, transient_indices_word, bind_word, set_word, submit_word, touch_word, blit_word, words, whole_language, Stage, in_before, in_block, at_room, at_latency, Reading, at_stage, with_version, with_size, with_encoders, with_room, with_new_frame, on_last_frame, with_block, with_names, with_resource_line, with_encoder_line, unless, has_count, is_text_byte, is_other_version, is_in_place, are_filled_before, room_form, resource_form, encoder_form, after_resource, after_encoder_line, after_word, after_fields}
use Rattle.spelling_model.specs.LineSpelling.{resource_fields, encoder_fields, block_lines}
use Rattle.spelling_model.proofs.Read.{bind_ok, same_ok}
use Rattle.spelling_model.proofs.SoFar.{scene_line, size_line, encoders_line}
use Rattle.spelling_model.proofs.Steps.{scene_form, size_form, encoders_form, room_line_form, frame_form}
use Rattle.spelling_model.proofs.FrameSteps.{encoder_line_form}
use Rattle.spelling_model.proofs.ReadLines.{after_kept, read_fields}

-- ---- readings one behind the other

pub read-append : (xs ys : List (List Field)) (r : Reading) → read_fields r (xs ++ ys) ≡ (read_fields r xs >>= λ q. read_fields q ys)
read-append [] ys r = refl
read-append (fs ∷ xs) ys r = by (after_kept r fs) (read-append xs ys)
  where
    by : (m : Read Reading) → ((q : Reading) → read_fields q (xs ++ ys) ≡ (read_fields q xs >>= λ q. read_fields q ys)) → (m >>= λ q. read_fields q (xs ++ ys)) ≡ ((m >>= λ q. read_fields q xs) >>= λ q. read_fields q ys)
    by (Ok q) h = h q
    by (Err c) h = refl

pub bind_same : (m : Read Reading) (f g : Reading → Read Reading) → ((q : Reading) → m ≡ Ok q → f q ≡ g q) → (m >>= f) ≡ (m >>= g)
bind_same (Ok q) f g h = h q refl
bind_same (Err c) f g h = refl

-- what stands behind the same lines is read alike
pub behind_same : (xs ys zs : List (List Field)) (r : Reading) → ((q : Reading) → read_fields r xs ≡ Ok q → read_fields q ys ≡ read_fields q zs) → read_fields r (xs ++ ys) ≡ read_fields r (xs ++ zs)
behind_same xs ys zs r h = read-append xs ys r ∙ bind_same (read_fields r xs) (λ q. read_fields q ys) (λ q. read_fields q zs) h ∙ sym (read-append xs zs r)

-- the reading behind a line is that of its word
kept_word : (r q : Reading) (fs : List Field) (w : Word) → find_word words (field fs 0) ≡ Some w → after_kept r fs ≡ Ok q → after_word whole_language r fs w ≡ Ok q
kept_word r q fs w is e =
    let t = bind_ok (unless (list_all (list_all is_text_byte) fs) bad_byte) _ q e in
    let k : after_fields whole_language r fs (Some w) ≡ Ok q = ap (after_fields whole_language r fs) (sym is) ∙ t.2 in
    let v = bind_ok (unless (not (is_other_version newest_version fs)) unknown_version) _ q k in
    let place = bind_ok (unless (is_in_place r w fs) misplaced_word) _ q v.2 in
    let filled = bind_ok (are_filled_before w fs) _ q place.2 in
    filled.2

-- ---- lines within a frame

resource_stage : (r q : Reading) (fs : List Field) (w : Word) → after_resource whole_language r fs w ≡ Ok q → q.stage ≡ r.stage
unfolding after_resource
resource_stage r q fs w e =
    let l = bind_ok (resource_form whole_language (views_in r.version) r.names fs w) _ q e in
    let made : with_names l.0.1 (with_resource_line l.0.0 r) ≡ q = same_ok l.2 in
    ap (λ k. k.stage) (sym made)

encoder_stage : (r q : Reading) (fs : List Field) (w : Word) → after_encoder_line r fs w ≡ Ok q → q.stage ≡ r.stage
unfolding after_encoder_line
encoder_stage r q fs w e =
    let l = bind_ok (encoder_form r.names fs w) _ q e in
    let made : on_last_frame (with_encoder_line l.0) r ≡ q = same_ok l.2 in
    ap (λ k. k.stage) (sym made)

resource_line_stage : (names : List Field) (r q : Reading) (l : ResourceLine) → after_kept r (resource_fields names l) ≡ Ok q → q.stage ≡ r.stage
unfolding after_word
resource_line_stage names r q (layout_line n parts) e = resource_stage r q (resource_fields names (layout_line n parts)) layout_word (kept_word r q (resource_fields names (layout_line n parts)) layout_word refl e)
resource_line_stage names r q (vertex_buffer_line n layout bytes) e = resource_stage r q (resource_fields names (vertex_buffer_line n layout bytes)) vertex_buffer_word (kept_word r q (resource_fields names (vertex_buffer_line n layout bytes)) vertex_buffer_word refl e)
resource_line_stage names r q (index_buffer_line n bytes) e = resource_stage r q (resource_fields names (index_buffer_line n bytes)) index_buffer_word (kept_word r q (resource_fields names (index_buffer_line n bytes)) index_buffer_word refl e)
resource_line_stage names r q (texture_line n width height format destination source) e = resource_stage r q (resource_fields names (texture_line n width height format destination source)) texture_word (kept_word r q (resource_fields names (texture_line n width height format destination source)) texture_word refl e)
resource_line_stage names r q (frame_buffer_line n color depth) e = resource_stage r q (resource_fields names (frame_buffer_line n color depth)) frame_buffer_word (kept_word r q (resource_fields names (frame_buffer_line n color depth)) frame_buffer_word refl e)
resource_line_stage names r q (program_line n kind) e = resource_stage r q (resource_fields names (program_line n kind)) program_word (kept_word r q (resource_fields names (program_line n kind)) program_word refl e)
resource_line_stage names r q (uniform_line n kind) e = resource_stage r q (resource_fields names (uniform_line n kind)) uniform_word (kept_word r q (resource_fields names (uniform_line n kind)) uniform_word refl e)
resource_line_stage names r q (update_line n offset bytes) e = resource_stage r q (resource_fields names (update_line n offset bytes)) update_word (kept_word r q (resource_fields names (update_line n offset bytes)) update_word refl e)
resource_line_stage names r q (texel_update_line n rect bytes) e = resource_stage r q (resource_fields names (texel_update_line n rect bytes)) texel_update_word (kept_word r q (resource_fields names (texel_update_line n rect bytes)) texel_update_word refl e)
resource_line_stage names r q (destroy_line n) e = resource_stage r q (resource_fields names (destroy_line n)) destroy_word (kept_word r q (resource_fields names (destroy_line n)) destroy_word refl e)
resource_line_stage names r q (view_line view x) e = resource_stage r q (resource_fields names (view_line view x)) view_word (kept_word r q (resource_fields names (view_line view x)) view_word refl e)
resource_line_stage names r q (target_line view target) e = resource_stage r q (resource_fields names (target_line view target)) view_word (kept_word r q (resource_fields names (target_line view target)) view_word refl e)
resource_line_stage names r q (order_line views) e = resource_stage r q (resource_fields names (order_line views)) order_word (kept_word r q (resource_fields names (order_line views)) order_word refl e)

encoder_line_stage : (names : List Field) (r q : Reading) (l : EncoderLine) → after_kept r (encoder_fields names l) ≡ Ok q → q.stage ≡ r.stage
unfolding after_word
encoder_line_stage names r q (state_line word) e = encoder_stage r q (encoder_fields names (state_line word)) state_word (kept_word r q (encoder_fields names (state_line word)) state_word refl e)
encoder_line_stage names r q (stencil_line front back) e = encoder_stage r q (encoder_fields names (stencil_line front back)) stencil_word (kept_word r q (encoder_fields names (stencil_line front back)) stencil_word refl e)
encoder_line_stage names r q (scissor_line rect) e = encoder_stage r q (encoder_fields names (scissor_line rect)) scissor_word (kept_word r q (encoder_fields names (scissor_line rect)) scissor_word refl e)
encoder_line_stage names r q (transform_line m) e = encoder_stage r q (encoder_fields names (transform_line m)) transform_word (kept_word r q (encoder_fields names (transform_line m)) transform_word refl e)
encoder_line_stage names r q (vertices_line n first count) e = encoder_stage r q (encoder_fields names (vertices_line n first count)) vertices_word (kept_word r q (encoder_fields names (vertices_line n first count)) vertices_word refl e)
encoder_line_stage names r q (indices_line n first count) e = encoder_stage r q (encoder_fields names (indices_line n first count)) indices_word (kept_word r q (encoder_fields names (indices_line n first count)) indices_word refl e)
encoder_line_stage names r q (transient_vertices_line layout bytes) e = encoder_stage r q (encoder_fields names (transient_vertices_line layout bytes)) transient_vertices_word (kept_word r q (encoder_fields names (transient_vertices_line layout bytes)) transient_vertices_word refl e)
encoder_line_stage names r q (transient_indices_line bytes) e = encoder_stage r q (encoder_fields names (transient_indices_line bytes)) transient_indices_word (kept_word r q (encoder_fields names (transient_indices_line bytes)) transient_indices_word refl e)
encoder_line_stage names r q (bind_line stage texture) e = encoder_stage r q (encoder_fields names (bind_line stage texture)) bind_word (kept_word r q (encoder_fields names (bind_line stage texture)) bind_word refl e)
encoder_line_stage names r q (set_line n value) e = encoder_stage r q (encoder_fields names (set_line n value)) set_word (kept_word r q (encoder_fields names (set_line n value)) set_word refl e)
encoder_line_stage names r q (submit_line view n depth flags) e = encoder_stage r q (encoder_fields names (submit_line view n depth flags)) submit_word (kept_word r q (encoder_fields names (submit_line view n depth flags)) submit_word refl e)
encoder_line_stage names r q (touch_line view) e = encoder_stage r q (encoder_fields names (touch_line view)) touch_word (kept_word r q (encoder_fields names (touch_line view)) touch_word refl e)
encoder_line_stage names r q (blit_line view destination dx dy source sx sy w h) e = encoder_stage r q (encoder_fields names (blit_line view destination dx dy source sx sy w h)) blit_word (kept_word r q (encoder_fields names (blit_line view destination dx dy source sx sy w h)) blit_word refl e)

block_stage : (r q : Reading) (fs : List Field) → encoder_line_form fs r ≡ Ok q → q.stage ≡ in_block
block_stage r q fs a =
    let c = bind_ok (has_count 2 fs) _ q a in
    let n = bind_ok (u8_number (field fs 1)) _ q c.2 in
    let made : at_stage in_block (on_last_frame (with_block n.0) r) ≡ q = same_ok n.2 in
    ap (λ k. k.stage) (sym made)

block_line_stage : (r q : Reading) (e : ℕ) → after_kept r (codes "encoder" ∷ decimal e ∷ []) ≡ Ok q → q.stage ≡ in_block
unfolding after_word
block_line_stage r q e ok = block_stage r q (codes "encoder" ∷ decimal e ∷ []) (kept_word r q (codes "encoder" ∷ decimal e ∷ []) encoder_word refl ok)

frame_stage : (r q : Reading) (fs : List Field) → frame_form fs r ≡ Ok q → q.stage ≡ in_before
frame_stage r q fs a =
    let c = bind_ok (has_count 1 fs) _ q a in
    let n = bind_ok (unless (nat_lt (length r.frames) 1024) out_of_range) _ q c.2 in
    let made : with_new_frame r ≡ q = same_ok n.2 in
    ap (λ k. k.stage) (sym made)

pub frame_line_stage : (r q : Reading) → after_kept r (codes "frame" ∷ []) ≡ Ok q → q.stage ≡ in_before
unfolding after_word
frame_line_stage r q ok = frame_stage r q (codes "frame" ∷ []) (kept_word r q (codes "frame" ∷ []) frame_word refl ok)

pub resources_stage : (names : List Field) (lines : List ResourceLine) (r q : Reading) → read_fields r (map (resource_fields names) lines) ≡ Ok q → q.stage ≡ r.stage
resources_stage names [] r q e = let same : r ≡ q = same_ok e in ap (λ k. k.stage) (sym same)
resources_stage names (l ∷ lines) r q e =
    let m = bind_ok (after_kept r (resource_fields names l)) _ q e in
    resources_stage names lines m.0 q m.2 ∙ resource_line_stage names r m.0 l m.1

encoders_stage : (names : List Field) (lines : List EncoderLine) (r q : Reading) → read_fields r (map (encoder_fields names) lines) ≡ Ok q → q.stage ≡ r.stage
encoders_stage names [] r q e = let same : r ≡ q = same_ok e in ap (λ k. k.stage) (sym same)
encoders_stage names (l ∷ lines) r q e =
    let m = bind_ok (after_kept r (encoder_fields names l)) _ q e in
    encoders_stage names lines m.0 q m.2 ∙ encoder_line_stage names r m.0 l m.1

-- a reading that a `beside` line may follow
abbrev pub IsAtDrawing : Stage → Type 0
IsAtDrawing st = (st ≡ in_before) ⊎ (st ≡ in_block)

pub blocks_stage : (names : List Field) (blocks : List Block) (r q : Reading) → read_fields r (flat_map (block_lines names) blocks) ≡ Ok q → IsAtDrawing r.stage → IsAtDrawing q.stage
blocks_stage names [] r q e h = let same : r ≡ q = same_ok e in subst (λ k. IsAtDrawing k.stage) same h
blocks_stage names (b ∷ blocks) r q e h =
    let m = bind_ok (read_fields r (block_lines names b)) _ q (sym (read-append (block_lines names b) (flat_map (block_lines names) blocks) r) ∙ e) in
    let first = bind_ok (after_kept r (codes "encoder" ∷ decimal b.encoder ∷ [])) _ m.0 m.1 in
    let stage : m.0.stage ≡ in_block = encoders_stage names b.lines first.0 m.0 first.2 ∙ block_line_stage r first.0 b.encoder first.1 in
    blocks_stage names blocks m.0 q m.2 (inr stage)

-- ---- lines in front of the frames

-- a reading has the room and the latency of another
abbrev KeepsHead : Reading → Reading → Type 0
KeepsHead r q = (q.room ≡ r.room) × (q.latency ≡ r.latency)

-- the version is the one that its field says
abbrev pub HasVersion : List ℕ → Reading → Type 0
HasVersion f q = number_in 1 newest_version f ≡ Ok q.version

scene_keeps : (r q : Reading) (fs : List Field) → scene_form fs r ≡ Ok q → KeepsHead r q × HasVersion (field fs 1) q
scene_keeps r q fs a =
    let c = bind_ok (has_count 2 fs) _ q a in
    let n = bind_ok (number_in 1 newest_version (field fs 1)) _ q c.2 in
    let made : with_version n.0 r ≡ q = same_ok n.2 in
    ((ap (λ k. k.room) (sym made), ap (λ k. k.latency) (sym made)), n.1 ∙ (λ i. Ok (made i).version))

size_keeps : (r q : Reading) (fs : List Field) → size_form fs r ≡ Ok q → KeepsHead r q × (q.version ≡ r.version)
size_keeps r q fs a =
    let c = bind_ok (has_count 3 fs) _ q a in
    let m = bind_ok (number_in 1 2048 (field fs 1)) _ q c.2 in
    let n = bind_ok (number_in 1 2048 (field fs 2)) _ q m.2 in
    let made : with_size m.0 n.0 r ≡ q = same_ok n.2 in
    ((ap (λ k. k.room) (sym made), ap (λ k. k.latency) (sym made)), ap (λ k. k.version) (sym made))

encoders_keeps : (r q : Reading) (fs : List Field) → encoders_form fs r ≡ Ok q → KeepsHead r q × (q.version ≡ r.version) × (q.stage ≡ at_room)
encoders_keeps r q fs a =
    let c = bind_ok (has_count 2 fs) _ q a in
    let m = bind_ok (number_in 1 8 (field fs 1)) _ q c.2 in
    let made : with_encoders m.0 r ≡ q = same_ok m.2 in
    ((ap (λ k. k.room) (sym made), ap (λ k. k.latency) (sym made)), ap (λ k. k.version) (sym made), ap (λ k. k.stage) (sym made))

room_keeps : (r q : Reading) (fs : List Field) → room_line_form fs r ≡ Ok q → (q.latency ≡ r.latency) × (q.version ≡ r.version) × (q.stage ≡ at_latency)
room_keeps r q fs a =
    let room = bind_ok (room_form fs) _ q a in
    let made : with_room room.0 r ≡ q = same_ok room.2 in
    (ap (λ k. k.latency) (sym made), ap (λ k. k.version) (sym made), ap (λ k. k.stage) (sym made))

-- behind the first three lines a reading has the version that they say, and the room and the latency that it had
pub head_keeps : (r q : Reading) (version w h n : ℕ) → read_fields r (scene_line version ∷ size_line w h ∷ encoders_line n ∷ []) ≡ Ok q → KeepsHead r q × HasVersion (decimal version) q × (q.stage ≡ at_room)
unfolding after_word
head_keeps r q version w h n e =
    let a = bind_ok (after_kept r (scene_line version)) _ q e in
    let b = bind_ok (after_kept a.0 (size_line w h)) _ q a.2 in
    let c = bind_ok (after_kept b.0 (encoders_line n)) _ q b.2 in
    let same : c.0 ≡ q = same_ok c.2 in
    let first = scene_keeps r a.0 (scene_line version) (kept_word r a.0 (scene_line version) scene_word refl a.1) in
    let second = size_keeps a.0 b.0 (size_line w h) (kept_word a.0 b.0 (size_line w h) size_word refl b.1) in
    let third = encoders_keeps b.0 c.0 (encoders_line n) (kept_word b.0 c.0 (encoders_line n) encoders_word refl c.1) in
    let version' : c.0.version ≡ a.0.version = third.1 ∙ second.1 in
    subst (λ q. KeepsHead r q × HasVersion (decimal version) q × (q.stage ≡ at_room)) same
    ((third.0.0 ∙ second.0.0 ∙ first.0.0, third.0.1 ∙ second.0.1 ∙ first.0.1), first.1 ∙ (λ i. Ok (sym version' i)), third.2)

-- behind the `room` line too, but for the room
pub room_line_keeps : (r q : Reading) (room : Room) → after_kept r (codes "room" ∷ decimal room.items ∷ decimal room.bytes ∷ decimal room.uniforms ∷ []) ≡ Ok q → (q.latency ≡ r.latency) × (q.version ≡ r.version) × (q.stage ≡ at_latency)
unfolding after_word
room_line_keeps r q room e =
    let fs = codes "room" ∷ decimal room.items ∷ decimal room.bytes ∷ decimal room.uniforms ∷ [] in
    room_keeps r q fs (kept_word r q fs room_word refl e)
