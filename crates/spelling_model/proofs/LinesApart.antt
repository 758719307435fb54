-- What is spelled of a scene in its ranges is lines that a text can have.
use Rattle.std.proofs.Common.{◌≡◌, ℕ, ◌≤◌, Bool, true, false, not, ◌==◌, List, [], ◌∷◌, ◌++◌, map, length, refl, ap, ◌∙◌, arith}
use Rattle.std.specs.Prelude.{codes, flat_map}
use Rattle.std.specs.List.{AllByRecursion}
use Rattle.std.specs.Fmt.{decimal}
use Rattle.std.proofs.lemmas.Bool.Decides.{nat_tests}
use Rattle.std.proofs.lemmas.List.Folds.{list_all-append}
use Rattle.scene_model.specs.Scene.{ResourceLine, layout_line, vertex_buffer_line, index_buffer_line, texture_line, frame_buffer_line, program_line, uniform_line, update_line, texel_update_line, destroy_line, view_line, target_line, order_line, EncoderLine, state_line, stencil_line, scissor_line, transform_line, vertices_line, indices_line, transient_vertices_line, transient_indices_line, bind_line, set_line, submit_line, touch_line, blit_line, Block, SceneFrame, Scene, views_of}
use Rattle.scene_model.specs.Field.{split_at}
use Rattle.scene_model.specs.Grammar.{Field, is_skipped, says_latency}
use Rattle.scene_model.proofs.SplitLaws.{is_free_of, split-found, split-none}
use Rattle.spelling_model.specs.LineSpelling.{resource_fields, encoder_fields, block_lines, beside_lines, frame_lines, frames_lines, latency_lines, head_lines, spelled_lines}
use Rattle.spelling_model.specs.Written.{has_beside}
use Rattle.spelling_model.specs.Readable.{bound_by, bound_by_lines, bound_by_frame, bound_by_frames, AreResourceLines, IsEncoderLine, IsBlock, IsFrame, AreFrames, IsReadable}
use Rattle.spelling_model.proofs.Joins.{joined_by}
use Rattle.spelling_model.proofs.LineTexts.{IsLine, AreLines, lines_joined}
use Rattle.spelling_model.proofs.NamesAgain.{HasNames}
use Rattle.spelling_model.proofs.Spelled.{is_visible, IsSpelled, weaker, decimal_spelled, u8_spelled, resource_spelled, encoder_spelled}
use Rattle.spelling_model.proofs.Growing.{grows, lines_grow, frames_grow}

not_blank : (b : ℕ) → is_visible b ≡ true → not (b == 32) ≡ true
not_blank b h = grind (arith, nat_tests, h)

not_newline : (b : ℕ) → is_visible b ≡ true → not (b == 10) ≡ true
not_newline b h = grind (arith, nat_tests, h)

split_again : (f : Field) (fs : List Field) → AllByRecursion IsSpelled (f ∷ fs) → split_at 32 (joined_by 32 (f ∷ fs)) ≡ f ∷ fs
split_again f [] h = split-none 32 f (weaker is_visible (λ b. not (b == 32)) not_blank f h.0.0)
split_again f (g ∷ fs) h = split-found 32 f (joined_by 32 (g ∷ fs)) (weaker is_visible (λ b. not (b == 32)) not_blank f h.0.0) ∙ ap (λ k. f ∷ k) (split_again g fs h.1)

free_again : (f : Field) (fs : List Field) → AllByRecursion IsSpelled (f ∷ fs) → is_free_of 10 (joined_by 32 (f ∷ fs)) ≡ true
free_again f [] h = weaker is_visible (λ b. not (b == 10)) not_newline f h.0.0
free_again f (g ∷ fs) h = list_all-append (λ b. not (b == 10)) f (32 ∷ joined_by 32 (g ∷ fs)) ∙ rw (weaker is_visible (λ b. not (b == 10)) not_newline f h.0.0) (free_again g fs h.1)

kept : (f : Field) (fs : List Field) → is_skipped f ≡ false → is_skipped (joined_by 32 (f ∷ fs)) ≡ false
kept [] fs h = absurd (cc h)
kept (b ∷ f) [] h = h
kept (b ∷ f) (g ∷ fs) h = h

is_line : (f : Field) (fs : List Field) → is_skipped f ≡ false → AllByRecursion IsSpelled (f ∷ fs) → IsLine (f ∷ fs)
is_line f fs first h = (joined_by 32 (f ∷ fs), free_again f fs h, split_again f fs h, kept f fs first)

resource_is_line : (all : List Field) (l : ResourceLine) → AllByRecursion IsSpelled (resource_fields all l) → IsLine (resource_fields all l)
resource_is_line all (layout_line n parts) h = is_line (codes "layout") _ refl h
resource_is_line all (vertex_buffer_line n layout bytes) h = is_line (codes "vb") _ refl h
resource_is_line all (index_buffer_line n bytes) h = is_line (codes "ib") _ refl h
resource_is_line all (texture_line n width height format destination source) h = is_line (codes "texture") _ refl h
resource_is_line all (frame_buffer_line n color depth) h = is_line (codes "fb") _ refl h
resource_is_line all (program_line n kind) h = is_line (codes "program") _ refl h
resource_is_line all (uniform_line n kind) h = is_line (codes "uniform") _ refl h
resource_is_line all (update_line n offset bytes) h = is_line (codes "update") _ refl h
resource_is_line all (texel_update_line n r bytes) h = is_line (codes "texupdate") _ refl h
resource_is_line all (destroy_line n) h = is_line (codes "destroy") _ refl h
resource_is_line all (view_line view c) h = is_line (codes "view") _ refl h
resource_is_line all (target_line view target) h = is_line (codes "view") _ refl h
resource_is_line all (order_line ids) h = is_line (codes "order") _ refl h

encoder_is_line : (all : List Field) (l : EncoderLine) → AllByRecursion IsSpelled (encoder_fields all l) → IsLine (encoder_fields all l)
encoder_is_line all (state_line word) h = is_line (codes "state") _ refl h
encoder_is_line all (stencil_line front back) h = is_line (codes "stencil") _ refl h
encoder_is_line all (scissor_line r) h = is_line (codes "scissor") _ refl h
encoder_is_line all (transform_line m) h = is_line (codes "transform") _ refl h
encoder_is_line all (vertices_line n first count) h = is_line (codes "vertices") _ refl h
encoder_is_line all (indices_line n first count) h = is_line (codes "indices") _ refl h
encoder_is_line all (transient_vertices_line layout bytes) h = is_line (codes "tvertices") _ refl h
encoder_is_line all (transient_indices_line bytes) h = is_line (codes "tindices") _ refl h
encoder_is_line all (bind_line stage texture) h = is_line (codes "bind") _ refl h
encoder_is_line all (set_line n value) h = is_line (codes "set") _ refl h
encoder_is_line all (submit_line view n depth flags) h = is_line (codes "submit") _ refl h
encoder_is_line all (touch_line view) h = is_line (codes "touch") _ refl h
encoder_is_line all (blit_line view destination dx dy source sx sy w h) spelled = is_line (codes "blit") _ refl spelled

-- ---- the parts of a scene

resources_apart : (all : List Field) (views : ℕ) (lines : List ResourceLine) (bound : List Bool) → HasNames all → length (bound_by_lines bound lines) ≤ length all → AreResourceLines views bound lines → AreLines (map (resource_fields all) lines)
resources_apart all views [] bound h le k = tt
resources_apart all views (l ∷ lines) bound h le k =
    let g = lines_grow (bound_by bound l) lines in
    let own = grows bound l in
    let one : length (bound_by bound l) ≤ length all = omega (arith, g, le) in
    (resource_is_line all l (resource_spelled views all bound l h (omega (arith, own, one)) one k.0), resources_apart all views lines (bound_by bound l) h le k.1)

encoders_apart : (all : List Field) (bound : List Bool) (lines : List EncoderLine) → HasNames all → length bound ≤ length all → AllByRecursion (IsEncoderLine bound) lines → AreLines (map (encoder_fields all) lines)
encoders_apart all bound [] h le k = tt
encoders_apart all bound (l ∷ lines) h le k = (encoder_is_line all l (encoder_spelled all bound l h le k.0), encoders_apart all bound lines h le k.1)

blocks_apart : (all : List Field) (encoders : ℕ) (bound : List Bool) (blocks : List Block) → HasNames all → encoders ≤ 8 → length bound ≤ length all → AllByRecursion (IsBlock encoders bound) blocks → AreLines (flat_map (block_lines all) blocks)
blocks_apart all encoders bound [] h few le k = tt
blocks_apart all encoders bound (b ∷ blocks) h few le k =
    let lt = k.0.0 in
    let head = is_line (codes "encoder") (decimal b.encoder ∷ []) refl ((refl, refl), (u8_spelled b.encoder (omega (arith, lt, few)), tt)) in
    lines_joined (block_lines all b) (flat_map (block_lines all) blocks) (head, encoders_apart all bound b.lines h le k.0.1) (blocks_apart all encoders bound blocks h few le k.1)

beside_apart : (all : List Field) (views : ℕ) (t : Bool) (lines : List ResourceLine) (bound : List Bool) → HasNames all → length (bound_by_lines bound lines) ≤ length all → AreResourceLines views bound lines → AreLines (beside_lines all t lines)
beside_apart all views false lines bound h le k = tt
beside_apart all views true lines bound h le k = (is_line (codes "beside") [] refl ((refl, refl), tt), resources_apart all views lines bound h le k)

frame_apart : (all : List Field) (views encoders : ℕ) (f : SceneFrame) (bound : List Bool) → HasNames all → encoders ≤ 8 → length (bound_by_frame bound f) ≤ length all → IsFrame views encoders bound f → AreLines (frame_lines all (has_beside f) f)
frame_apart all views encoders f bound h few le k =
    let here = bound_by_lines bound f.before in
    let grown : length here ≤ length all = (let g = lines_grow here f.beside in omega (arith, g, le)) in
    let rest = lines_joined (flat_map (block_lines all) f.blocks) (beside_lines all (has_beside f) f.beside) (blocks_apart all encoders here f.blocks h few grown k.blocks) (beside_apart all views (has_beside f) f.beside here h le k.beside) in (
      is_line (codes "frame") [] refl ((refl, refl), tt),
      lines_joined (map (resource_fields all) f.before) (flat_map (block_lines all) f.blocks ++ beside_lines all (has_beside f) f.beside) (resources_apart all views f.before bound h grown k.before) rest,
    )

frames_apart : (all : List Field) (views encoders : ℕ) (frames : List SceneFrame) (bound : List Bool) → HasNames all → encoders ≤ 8 → length (bound_by_frames bound frames) ≤ length all → AreFrames views encoders bound frames → AreLines (frames_lines all (map has_beside frames) frames)
frames_apart all views encoders [] bound h few le k = tt
frames_apart all views encoders (f ∷ frames) bound h few le k =
    let g = frames_grow (bound_by_frame bound f) frames in
    lines_joined (frame_lines all (has_beside f) f) (frames_lines all (map has_beside frames) frames) (frame_apart all views encoders f bound h few (omega (arith, g, le)) k.0) (frames_apart all views encoders frames (bound_by_frame bound f) h few le k.1)

latency_apart : (t : Bool) (n : ℕ) → n ≤ 3 → AreLines (latency_lines t n)
latency_apart false n h = tt
latency_apart true n h = (is_line (codes "latency") (decimal n ∷ []) refl ((refl, refl), (decimal_spelled n (omega (arith, h)), tt)), tt)

pub lines_apart : (s : Scene) → IsReadable s → AreLines (spelled_lines true (says_latency s.version) (map has_beside s.frames) s)
lines_apart s h =
    let names : HasNames s.names = record { names = h.names; distinct = h.distinct } in
    let enough : length (bound_by_frames [] s.frames) ≤ length s.names = (let e = h.all_bound in omega (arith, e)) in
    let v = h.known_version.1 in
    let w = h.sides.narrow in
    let t = h.sides.low in
    let n = h.encoders.1 in
    let i = h.room.1 in
    let b = h.room.2 in
    let u = h.room.3 in
    let frames = frames_apart s.names (views_of s) s.encoders s.frames [] names n enough h.frames in
    let done : AreLines ((codes "done" ∷ []) ∷ []) = (is_line (codes "done") [] refl ((refl, refl), tt), tt) in
    let room = is_line (codes "room") (decimal s.room.items ∷ decimal s.room.bytes ∷ decimal s.room.uniforms ∷ []) refl
    ((refl, refl), (decimal_spelled s.room.items (omega (arith, i)), (decimal_spelled s.room.bytes (omega (arith, b)), (decimal_spelled s.room.uniforms (omega (arith, u)), tt)))) in
    let head : AreLines (head_lines true (says_latency s.version) s) = (is_line (codes "scene") (decimal s.version ∷ []) refl ((refl, refl), (decimal_spelled s.version (omega (arith, v)), tt)), (is_line (codes "size") (decimal s.width ∷ decimal s.height ∷ []) refl ((refl, refl), (decimal_spelled s.width (omega (arith, w)), (decimal_spelled s.height (omega (arith, t)), tt))), (is_line (codes "encoders") (decimal s.encoders ∷ []) refl ((refl, refl), (decimal_spelled s.encoders (omega (arith, n)), tt)), (room, latency_apart (says_latency s.version) s.latency h.latency.1)))) in
    lines_joined (head_lines true (says_latency s.version) s) (frames_lines s.names (map has_beside s.frames) s.frames ++ (codes "done" ∷ []) ∷ []) head
    (lines_joined (frames_lines s.names (map has_beside s.frames) s.frames) ((codes "done" ∷ []) ∷ []) frames done)
