-- A scene that is read keeps its bounds: they follow from its being readable, and from how many lines its text has.
use Rattle.std.proofs.Common.{◌≡◌, inl, inr, ℕ, zero, suc, ◌+◌, ◌^◌, ◌≤◌, ◌<◌, nat_lt, Bool, true, false, not, ◌==◌, cond, List, [], ◌∷◌, length, ◌++◌, map, filter, length-append, slice_get, Option, Some, None, Ok, refl, ap, subst, sym, ◌∙◌, arith}
use Rattle.std.specs.Prelude.{codes, flat_map}
use Rattle.std.specs.Bool.{⊤}
use Rattle.std.specs.List.{All, AllByRecursion}
use Rattle.std.specs.Fmt.{decimal}
use Rattle.std.proofs.lemmas.Bool.Decides.{nat_tests}
use Rattle.std.proofs.lemmas.List.{length-map}
use Rattle.std.proofs.lemmas.List.Elements.{All-cons}
use Rattle.scene_model.specs.Scene.{Name, ResourceLine, layout_line, vertex_buffer_line, index_buffer_line, texture_line, frame_buffer_line, program_line, uniform_line, update_line, texel_update_line, destroy_line, view_line, target_line, order_line, EncoderLine, state_line, stencil_line, scissor_line, transform_line, vertices_line, indices_line, transient_vertices_line, transient_indices_line, bind_line, set_line, submit_line, touch_line, blit_line, Block, SceneFrame, Scene, views_of}
use Rattle.scene_model.specs.Field.{split_at, with_head}
use Rattle.scene_model.specs.Grammar.{Field, whole_language, is_skipped, scene_of, front_of}
use Rattle.spelling_model.specs.LineSpelling.{resource_fields, encoder_fields, block_lines, beside_lines, frame_lines, frames_lines, head_lines}
use Rattle.spelling_model.specs.Spelling.{kept_fields, MayLeaveBesides, Spells}
use Rattle.spelling_model.specs.Readable.{IsBound, IsBoundOrNone, IsOfUniform, bound_by, bound_by_lines, bound_by_frame, bound_by_frames, IsResourceLine, AreResourceLines, IsEncoderLine, IsBlock, IsFrame, AreFrames, IsReadable}
use Rattle.spelling_model.proofs.Growing.{grows, lines_grow, frames_grow}
use Rattle.spelling_model.proofs.FrontReads.{front-reads}
use Rattle.spelling_model.proofs.Reading.{reading-law}
use Rattle.scene_text.specs.Bounds.{HasBlocks, some_name, resource_names, encoder_names, AreBelow, HasNames, HasFewLines, IsBounded}

none_of : {X : Type 0} (P : X → Type 0) → All P []
none_of P k d lt = absurd (omega arith)

all_of : {X : Type 0} (P : X → Type 0) (xs : List X) → AllByRecursion P xs → All P xs
all_of P [] h = none_of P
all_of P (x ∷ xs) h = All-cons P x xs h.0 (all_of P xs h.1)

each : {X : Type 0} (P Q : X → Type 0) → ((x : X) → P x → Q x) → (xs : List X) → AllByRecursion P xs → AllByRecursion Q xs
each P Q k [] h = tt
each P Q k (x ∷ xs) h = (k x h.0, each P Q k xs h.1)

-- ---- names

used : (count : ℕ) (bound : List Bool) (n : Name) → length bound ≤ count → IsBound bound n → n < count
used count bound n le lt = omega (arith, le, lt)

optional : (count : ℕ) (bound : List Bool) (o : Option Name) → length bound ≤ count → IsBoundOrNone bound o → AreBelow count (some_name o)
optional count bound None le h = tt
optional count bound (Some n) le h = (used count bound n le h, tt)

new : (count : ℕ) (bound : List Bool) (u : Bool) (n : Name) → length (bound ++ u ∷ []) ≤ count → n ≡ length bound → n < count
new count bound u n le e = omega (arith, le, e, length-append bound (u ∷ []))

got_in : (bound : List Bool) (n : ℕ) → slice_get bound n ≡ Some true → n < length bound
got_in [] n e = absurd (cc e)
got_in (b ∷ bound) zero e = omega arith
got_in (b ∷ bound) (suc n) e = let l = got_in bound n e in omega (arith, l)

not_below : (a b : ℕ) → a ≡ b → nat_lt a b ≡ false
not_below a b e = grind (arith, nat_tests, e)

of_uniform : (count : ℕ) (bound : List Bool) (n : Name) → length bound ≤ count → length (cond (nat_lt n (length bound)) bound (bound ++ true ∷ [])) ≤ count → IsOfUniform bound n → n < count
of_uniform count bound n le grown (inl e) = new count bound true n (subst (λ t. length (cond t bound (bound ++ true ∷ [])) ≤ count) (not_below n (length bound) e) grown) e
of_uniform count bound n le grown (inr e) = let l = got_in bound n e in omega (arith, l, le)

resource_below : (views count : ℕ) (bound : List Bool) (l : ResourceLine) → length bound ≤ count → length (bound_by bound l) ≤ count → IsResourceLine views bound l → AreBelow count (resource_names l)
resource_below views count bound (layout_line n parts) le grown k = (new count bound false n grown k.0, tt)
resource_below views count bound (vertex_buffer_line n layout bytes) le grown k = (new count bound false n grown k.0, (used count bound layout le k.1, tt))
resource_below views count bound (index_buffer_line n bytes) le grown k = (new count bound false n grown k.0, tt)
resource_below views count bound (texture_line n width height format destination source) le grown k = (new count bound false n grown k.0, tt)
resource_below views count bound (frame_buffer_line n color depth) le grown k = (new count bound false n grown k.0, (used count bound color le k.1, optional count bound depth le k.2))
resource_below views count bound (program_line n kind) le grown k = (new count bound false n grown k, tt)
resource_below views count bound (uniform_line n kind) le grown k = (of_uniform count bound n le grown k, tt)
resource_below views count bound (update_line n offset bytes) le grown k = (used count bound n le k.0, tt)
resource_below views count bound (texel_update_line n r bytes) le grown k = (used count bound n le k.0, tt)
resource_below views count bound (destroy_line n) le grown k = (used count bound n le k, tt)
resource_below views count bound (target_line view target) le grown k = optional count bound target le k.1
resource_below views count bound (view_line view c) le grown k = tt
resource_below views count bound (order_line ids) le grown k = tt

resources_below : (views count : ℕ) (lines : List ResourceLine) (bound : List Bool) → length (bound_by_lines bound lines) ≤ count → AreResourceLines views bound lines → AllByRecursion (λ l. AreBelow count (resource_names l)) lines
resources_below views count [] bound le k = tt
resources_below views count (l ∷ lines) bound le k =
    let g = lines_grow (bound_by bound l) lines in
    let own = grows bound l in
    let one : length (bound_by bound l) ≤ count = omega (arith, g, le) in
    (resource_below views count bound l (omega (arith, own, one)) one k.0, resources_below views count lines (bound_by bound l) le k.1)

encoder_below : (count : ℕ) (bound : List Bool) → length bound ≤ count → (l : EncoderLine) → IsEncoderLine bound l → AreBelow count (encoder_names l)
encoder_below count bound le (vertices_line n first c) k = (used count bound n le k.0, tt)
encoder_below count bound le (indices_line n first c) k = (used count bound n le k.0, tt)
encoder_below count bound le (transient_vertices_line layout bytes) k = (used count bound layout le k.0, tt)
encoder_below count bound le (bind_line stage texture) k = optional count bound texture le k.1
encoder_below count bound le (set_line n value) k = (used count bound n le k.0, tt)
encoder_below count bound le (submit_line view n depth flags) k = (used count bound n le k.1, tt)
encoder_below count bound le (blit_line view destination dx dy source sx sy w h) k = (used count bound destination le k.1, (used count bound source le k.4, tt))
encoder_below count bound le (state_line word) k = tt
encoder_below count bound le (stencil_line front back) k = tt
encoder_below count bound le (scissor_line r) k = tt
encoder_below count bound le (transform_line m) k = tt
encoder_below count bound le (transient_indices_line bytes) k = tt
encoder_below count bound le (touch_line view) k = tt

block_below : (count encoders : ℕ) (bound : List Bool) → length bound ≤ count → (b : Block) → IsBlock encoders bound b → All (λ l. AreBelow count (encoder_names l)) b.lines
block_below count encoders bound le b k = all_of (λ l. AreBelow count (encoder_names l)) b.lines (each (IsEncoderLine bound) (λ l. AreBelow count (encoder_names l)) (encoder_below count bound le) b.lines k.1)

-- ---- frames

frame_names : (views encoders count : ℕ) (bound : List Bool) (f : SceneFrame) → length (bound_by_frame bound f) ≤ count → IsFrame views encoders bound f → HasNames count f
frame_names views encoders count bound f le k =
    let here = bound_by_lines bound f.before in
    let g = lines_grow here f.beside in
    let grown : length here ≤ count = omega (arith, g, le) in
    record {
      before = all_of (λ l. AreBelow count (resource_names l)) f.before (resources_below views count f.before bound grown k.before);
      blocks = all_of (λ b. All (λ l. AreBelow count (encoder_names l)) b.lines) f.blocks (each (IsBlock encoders here) (λ b. All (λ l. AreBelow count (encoder_names l)) b.lines) (block_below count encoders here grown) f.blocks k.blocks);
      beside = all_of (λ l. AreBelow count (resource_names l)) f.beside (resources_below views count f.beside here le k.beside);
    }

frames_names : (views encoders count : ℕ) (frames : List SceneFrame) (bound : List Bool) → length (bound_by_frames bound frames) ≤ count → AreFrames views encoders bound frames → AllByRecursion (HasNames count) frames
frames_names views encoders count [] bound le k = tt
frames_names views encoders count (f ∷ frames) bound le k =
    let g = frames_grow (bound_by_frame bound f) frames in
    (frame_names views encoders count bound f (omega (arith, g, le)) k.0, frames_names views encoders count frames (bound_by_frame bound f) le k.1)

block_number : (encoders : ℕ) (bound : List Bool) (b : Block) → IsBlock encoders bound b → b.encoder < encoders
block_number encoders bound b k = k.0

frames_blocks : (views encoders : ℕ) (frames : List SceneFrame) (bound : List Bool) → AreFrames views encoders bound frames → AllByRecursion (HasBlocks encoders) frames
frames_blocks views encoders [] bound k = tt
frames_blocks views encoders (f ∷ frames) bound k = (
  record { ascending = k.0.ascending; below = all_of (λ b. b.encoder < encoders) f.blocks (each (IsBlock encoders (bound_by_lines bound f.before)) (λ b. b.encoder < encoders) (block_number encoders (bound_by_lines bound f.before)) f.blocks k.0.blocks) },
  frames_blocks views encoders frames (bound_by_frame bound f) k.1,
)

-- ---- how many lines

head_count : (x : ℕ) (ps : List (List ℕ)) → length (with_head x ps) ≤ length ps + 1
head_count x [] = omega arith
head_count x (p ∷ ps) = omega arith

pub pieces_count : (c : ℕ) (xs : List ℕ) → length (split_at c xs) ≤ length xs + 1
pieces_count c [] = omega arith
pieces_count c (x ∷ xs) = by (x == c) (split_at c xs) (pieces_count c xs)
  where
    by : (t : Bool) (ps : List (List ℕ)) → length ps ≤ length xs + 1 → length (cond t ([] ∷ ps) (with_head x ps)) ≤ suc (length xs) + 1
    by true ps h = omega (arith, h)
    by false ps h = let k = head_count x ps in omega (arith, h, k)

kept_count : (pieces : List (List ℕ)) → length (filter (λ line. not (is_skipped line)) pieces) ≤ length pieces
kept_count [] = omega arith
kept_count (p ∷ pieces) = by (not (is_skipped p)) (kept_count pieces)
  where
    by : (t : Bool) → length (filter (λ line. not (is_skipped line)) pieces) ≤ length pieces → length (cond t (p ∷ filter (λ line. not (is_skipped line)) pieces) (filter (λ line. not (is_skipped line)) pieces)) ≤ suc (length pieces)
    by true h = omega (arith, h)
    by false h = omega (arith, h)

blocks_few : (names : List Field) (blocks : List Block) → length (flat_map (block_lines names) blocks) < 2 ^ 32 → AllByRecursion (λ b. length b.lines < 2 ^ 32) blocks
blocks_few names [] h = tt
blocks_few names (b ∷ blocks) h =
    let whole = length-append (block_lines names b) (flat_map (block_lines names) blocks) in
    let own = length-map b.lines (encoder_fields names) in
    (omega (arith, h, whole, own), blocks_few names blocks (omega (arith, h, whole)))

beside_few : (names : List Field) (b : Bool) (lines : List ResourceLine) → (b ≡ false → lines ≡ []) → length (beside_lines names b lines) < 2 ^ 32 → length lines < 2 ^ 32
beside_few names false lines left h = let e = ap length (left refl) in omega (arith, e)
beside_few names true lines left h = let own = length-map lines (resource_fields names) in omega (arith, own, h)

frame_few : (names : List Field) (b : Bool) (f : SceneFrame) → (b ≡ false → f.beside ≡ []) → length (frame_lines names b f) < 2 ^ 32 → HasFewLines f
frame_few names b f left h =
    let blocks = flat_map (block_lines names) f.blocks in
    let beside = beside_lines names b f.beside in
    let whole = length-append (map (resource_fields names) f.before) (blocks ++ beside) in
    let rest = length-append blocks beside in
    let own = length-map f.before (resource_fields names) in
    record {
      before = omega (arith, h, whole, own);
      blocks = all_of (λ b. length b.lines < 2 ^ 32) f.blocks (blocks_few names f.blocks (omega (arith, h, whole, rest)));
      beside = beside_few names b f.beside left (omega (arith, h, whole, rest));
    }

frames_few : (names : List Field) (besides : List Bool) (frames : List SceneFrame) → MayLeaveBesides besides frames → length (frames_lines names besides frames) < 2 ^ 32 → AllByRecursion HasFewLines frames
frames_few names [] [] left h = tt
frames_few names [] (f ∷ frames) left h = absurd left
frames_few names (b ∷ besides) [] left h = tt
frames_few names (b ∷ besides) (f ∷ frames) left h =
    let whole = length-append (frame_lines names b f) (frames_lines names besides frames) in
    (frame_few names b f left.0 (omega (arith, h, whole)), frames_few names besides frames left.1 (omega (arith, h, whole)))

spelled_few : (text : List ℕ) (s : Scene) → length (split_at 10 text) < 2 ^ 32 → Spells text s → AllByRecursion HasFewLines s.frames
spelled_few text s few k =
    let head = head_lines k.1.with_room k.1.with_latency s in
    let frames = frames_lines s.names k.1.besides s.frames in
    let kept : length (kept_fields text) ≤ length (split_at 10 text) = (let a = kept_count (split_at 10 text) in omega (arith, a, length-map (filter (λ line. not (is_skipped line)) (split_at 10 text)) (split_at 32))) in
    let all = ap length k.1.spelled in
    let whole = length-append head (frames ++ (codes "done" ∷ []) ∷ []) in
    let rest = length-append frames ((codes "done" ∷ []) ∷ []) in
    frames_few s.names k.1.besides s.frames k.1.besides_left (omega (arith, few, kept, all, whole, rest))

-- ---- scenes

text_bounded : (text : List ℕ) (s : Scene) → length (split_at 10 text) < 2 ^ 32 → scene_of whole_language text ≡ Ok s → IsReadable s × IsBounded s
text_bounded text s few e =
    let law = (reading-law s text).0 e in
    let r = law.0 in
    let enough : length (bound_by_frames [] s.frames) ≤ length s.names = (let a = r.all_bound in omega (arith, a)) in (
      r,
      record {
        known_version = r.known_version;
        sides = r.sides;
        encoders = r.encoders;
        room = r.room;
        latency = r.latency;
        one_out = r.one_out;
        some_frame = r.frame_count.0;
        few_frames = r.frame_count.1;
        blocks = all_of (HasBlocks s.encoders) s.frames (frames_blocks (views_of s) s.encoders s.frames [] r.frames);
        names = all_of (HasNames (length s.names)) s.frames (frames_names (views_of s) s.encoders (length s.names) s.frames [] enough r.frames);
        lines = all_of HasFewLines s.frames (spelled_few text s few law.1);
      },
    )

-- a scene that some bytes are is readable and keeps its bounds
pub bounded : (bytes : List ℕ) (s : Scene) → length bytes ≤ 4294967294 → scene_of whole_language bytes ≡ Ok s → IsReadable s × IsBounded s
bounded bytes s le e = let c = pieces_count 10 bytes in text_bounded bytes s (omega (arith, le, c)) e

-- so does a scene at the front of some bytes
pub front_bounded : (bytes : List ℕ) (f : Scene × ℕ) → length bytes ≤ 4294967294 → front_of whole_language bytes ≡ Ok f → IsReadable f.0 × IsBounded f.0
front_bounded bytes f le e =
    let t = front-reads whole_language bytes f e in
    let c = pieces_count 10 bytes in
    let few = t.1 in
    text_bounded t.0 f.0 (omega (arith, le, c, few)) t.2
