-- Each scene that is read is readable: by one induction over the lines of its text.
use Rattle.std.proofs.Common.{◌≡◌, ℕ, ◌≤◌, ◌<◌, nat_lt, leb, ltb-true, Bool, true, false, not, ◌&&◌, cond, List, [], ◌∷◌, length, ◌++◌, length-append, Option, Some, None, Ok, Err, refl, ap, subst, sym, ◌∙◌, suc, arith}
use Rattle.std.specs.List.{list_all, AllByRecursion, IsDistinct}
use Rattle.scene_model.specs.Scene.{ResourceLine, EncoderLine, Block, SceneFrame, Scene, newest_version, greatest_latency, views_in}
use Rattle.scene_model.specs.Field.{Read, ◌>>=◌, bad_byte, misplaced_word, unknown_version, out_of_range, no_number, is_numeral, value_onto, in_range, number_in, u8_number, find_word}
use Rattle.scene_model.specs.Grammar.{Field, field, Named, whole_language, words, Word, scene_word, size_word, encoders_word, room_word, latency_word, frame_word, encoder_word, beside_word, done_word, journal_word, layout_word, vertex_buffer_word, index_buffer_word, texture_word, frame_buffer_word, program_word, uniform_word, update_word, texel_update_word, destroy_word, view_word, order_word, state_word, stencil_word, scissor_word, transform_word, vertices_word, indices_word, transient_vertices_word, transient_indices_word, bind_word, set_word, submit_word, touch_word, blit_word, Stage, at_front, at_size, at_encoders, at_room, at_latency, at_first_frame, in_before, in_block, in_beside, at_end, is_room_word, is_latency_word, is_frame_word, is_resource_word, is_encoder_word, opens_part, ends_frame, can_stand, Reading, nothing_read, on_last, empty_frame, at_stage, with_version, with_size, with_encoders, with_room, with_latency, with_new_frame, with_block, with_line, with_encoder_line, on_last_frame, with_names, with_resource_line, with_before_line, with_beside_line, is_beside, last_encoder, blocks_of_last, unless, has_count, is_text_byte, is_other_version, follows, is_next_of, says_latency, is_in_place, are_filled_before, room_form, resource_form, encoder_form, after_resource, after_encoder_line, after_word, after_fields, is_at_end, scene_read, scene_of}
use Rattle.spelling_model.specs.Readable.{bound_by, bound_by_lines, bound_by_frame, bound_by_frames, IsResourceLine, AreResourceLines, IsEncoderLine, AreAscending, IsBlock, IsFrame, AreFrames, IsRoom, IsReadable}
use Rattle.spelling_model.specs.Spelling.{kept_fields}
use Rattle.spelling_model.proofs.Read.{both, unless_ok, true_false}
use Rattle.spelling_model.proofs.Numbers.{number_bound}
use Rattle.spelling_model.proofs.Names.{length_texts}
use Rattle.spelling_model.proofs.SoFar.{on_last-append}
use Rattle.spelling_model.proofs.FrameSteps.{IsResourceWord, IsEncoderWord, not_both, none_of_two, none_of_three}
use Rattle.spelling_model.proofs.ReadLines.{after_kept, read_fields}
use Rattle.spelling_model.proofs.Texts.{fields_read}
use Rattle.spelling_model.proofs.FieldRanges.{AllRead, behind, past, made, none_made}
use Rattle.spelling_model.proofs.NameRanges.{flags, AreNames, flags_length, all_more}
use Rattle.spelling_model.proofs.LineRanges.{Fits, resource_fits, encoder_fits}

-- ---- one element more

lines_more : (views : ℕ) (bound : List Bool) (lines : List ResourceLine) (l : ResourceLine) → AreResourceLines views bound lines → IsResourceLine views (bound_by_lines bound lines) l → AreResourceLines views bound (lines ++ l ∷ [])
lines_more views bound [] l h k = (k, tt)
lines_more views bound (x ∷ lines) l h k = (h.0, lines_more views (bound_by bound x) lines l h.1 k)

pub bound_more : (bound : List Bool) (lines : List ResourceLine) (l : ResourceLine) → bound_by_lines bound (lines ++ l ∷ []) ≡ bound_by (bound_by_lines bound lines) l
bound_more bound [] l = refl
bound_more bound (x ∷ lines) l = bound_more (bound_by bound x) lines l

frames_more : (views n : ℕ) (bound : List Bool) (fs : List SceneFrame) (f : SceneFrame) → AreFrames views n bound fs → IsFrame views n (bound_by_frames bound fs) f → AreFrames views n bound (fs ++ f ∷ [])
frames_more views n bound [] f h k = (k, tt)
frames_more views n bound (g ∷ fs) f h k = (h.0, frames_more views n (bound_by_frame bound g) fs f h.1 k)

pub bound_frames_more : (bound : List Bool) (fs : List SceneFrame) (f : SceneFrame) → bound_by_frames bound (fs ++ f ∷ []) ≡ bound_by_frame (bound_by_frames bound fs) f
bound_frames_more bound [] f = refl
bound_frames_more bound (g ∷ fs) f = bound_frames_more (bound_by_frame bound g) fs f

-- a change of the last element that keeps a property
last_keeps : {X : Type 0} (P : X → Type 0) (f : X → X) → ((x : X) → P x → P (f x)) → (xs : List X) → AllByRecursion P xs → AllByRecursion P (on_last f xs)
last_keeps P f k [] h = tt
last_keeps P f k (x ∷ []) h = (k x h.0, tt)
last_keeps P f k (x ∷ y ∷ rest) h = (h.0, last_keeps P f k (y ∷ rest) h.1)

same_length : {X : Type 0} (f : X → X) (xs : List X) → length (on_last f xs) ≡ length xs
same_length f [] = refl
same_length f (x ∷ []) = refl
same_length f (x ∷ y ∷ rest) = ap suc (same_length f (y ∷ rest))

pub last_blocks : (fs : List SceneFrame) (f : SceneFrame) → blocks_of_last (fs ++ f ∷ []) ≡ f.blocks
last_blocks [] f = refl
last_blocks (g ∷ []) f = refl
last_blocks (g ∷ h ∷ fs) f = last_blocks (h ∷ fs) f

ascending_more : (e : ℕ) (bs : List Block) → follows e (last_encoder bs) ≡ true → AreAscending bs → AreAscending (bs ++ record { encoder = e; lines = [] } ∷ [])
ascending_more e [] f h = tt
ascending_more e (b ∷ []) f h = (ltb-true b.encoder e f, tt)
ascending_more e (b ∷ c ∷ rest) f h = (h.0, ascending_more e (c ∷ rest) f h.1)

ascending_line : (l : EncoderLine) (bs : List Block) → AreAscending bs → AreAscending (on_last (with_line l) bs)
ascending_line l [] h = tt
ascending_line l (b ∷ []) h = tt
ascending_line l (b ∷ c ∷ []) h = (h.0, tt)
ascending_line l (b ∷ c ∷ d ∷ rest) h = (h.0, ascending_line l (c ∷ d ∷ rest) h.1)

-- ---- a frame with one part more

before_fits : (views n : ℕ) (bound : List Bool) (f : SceneFrame) (l : ResourceLine) → f.blocks ≡ [] → f.beside ≡ [] → IsResourceLine views (bound_by_frame bound f) l → IsFrame views n bound f → IsFrame views n bound (with_before_line l f)
before_fits views n bound f l no_blocks no_beside k h =
    let here = bound_by_lines bound f.before in
    let own : IsResourceLine views here l = subst (λ ls. IsResourceLine views (bound_by_lines here ls) l) no_beside k in
    record {
      before = lines_more views bound f.before l h.before own;
      ascending = h.ascending;
      blocks = subst (AllByRecursion (IsBlock n (bound_by_lines bound (f.before ++ l ∷ [])))) (sym no_blocks) tt;
      beside = subst (AreResourceLines views (bound_by_lines bound (f.before ++ l ∷ []))) (sym no_beside) tt;
    }

beside_fits : (views n : ℕ) (bound : List Bool) (f : SceneFrame) (l : ResourceLine) → IsResourceLine views (bound_by_frame bound f) l → IsFrame views n bound f → IsFrame views n bound (with_beside_line l f)
beside_fits views n bound f l k h = record { before = h.before; ascending = h.ascending; blocks = h.blocks; beside = lines_more views (bound_by_lines bound f.before) f.beside l h.beside k }

block_fits : (views n : ℕ) (bound : List Bool) (f : SceneFrame) (e : ℕ) → e < n → follows e (last_encoder f.blocks) ≡ true → IsFrame views n bound f → IsFrame views n bound (with_block e f)
block_fits views n bound f e lt next h = record {
  before = h.before;
  ascending = ascending_more e f.blocks next h.ascending;
  blocks = all_more (IsBlock n (bound_by_lines bound f.before)) f.blocks (record { encoder = e; lines = [] }) h.blocks (lt, tt);
  beside = h.beside;
}

block_line : (n : ℕ) (bound : List Bool) (l : EncoderLine) → IsEncoderLine bound l → (b : Block) → IsBlock n bound b → IsBlock n bound (with_line l b)
block_line n bound l k b h = (h.0, all_more (IsEncoderLine bound) b.lines l h.1 k)

line_fits : (views n : ℕ) (bound : List Bool) (f : SceneFrame) (l : EncoderLine) → f.beside ≡ [] → IsEncoderLine (bound_by_frame bound f) l → IsFrame views n bound f → IsFrame views n bound (with_encoder_line l f)
line_fits views n bound f l none k h =
    let here = bound_by_lines bound f.before in
    let own : IsEncoderLine here l = subst (λ ls. IsEncoderLine (bound_by_lines here ls) l) none k in
    record { before = h.before; ascending = ascending_line l f.blocks h.ascending; blocks = last_keeps (IsBlock n here) (with_line l) (block_line n here l own) f.blocks h.blocks; beside = h.beside }

-- ---- what is kept while lines are read

abbrev AreSides : ℕ → ℕ → Type 0
AreSides width height = (1 ≤ width) × (1 ≤ height) × (width ≤ 2048) × (height ≤ 2048)

-- at the end of a frame, or in front of the first
record IsOpen (r : Reading) : Type 0 where
  sides : AreSides r.width r.height
  encoders : (1 ≤ r.encoders) × (r.encoders ≤ 8)
  frames : AreFrames (views_in r.version) r.encoders [] r.frames
  bound : flags r.names ≡ bound_by_frames [] r.frames

-- inside a last frame
record IsInside (r : Reading) : Type 0 where
  sides : AreSides r.width r.height
  encoders : (1 ≤ r.encoders) × (r.encoders ≤ 8)
  closed : List SceneFrame
  last : SceneFrame
  frames : r.frames ≡ closed ++ last ∷ []
  before : AreFrames (views_in r.version) r.encoders [] closed
  own : IsFrame (views_in r.version) r.encoders (bound_by_frames [] closed) last
  bound : flags r.names ≡ bound_by_frame (bound_by_frames [] closed) last

-- in front of the frames
record IsAhead (r : Reading) : Type 0 where
  none : r.frames ≡ []
  unnamed : r.names ≡ []
  sides : AreSides r.width r.height
  encoders : (1 ≤ r.encoders) × (r.encoders ≤ 8)

abbrev IsNothing : Reading → Type 0
IsNothing r = (r.frames ≡ []) × (r.names ≡ [])

abbrev KeptAt : Stage → Reading → Type 0
KeptAt at_front r = IsNothing r × (r.latency ≡ 1)
KeptAt at_size r = IsNothing r
KeptAt at_encoders r = IsNothing r × AreSides r.width r.height
KeptAt at_room r = IsAhead r
KeptAt at_latency r = IsAhead r
KeptAt at_first_frame r = IsAhead r
KeptAt in_before r = (i : IsInside r) × (i.last.blocks ≡ []) × (i.last.beside ≡ [])
KeptAt in_block r = (i : IsInside r) × (i.last.beside ≡ [])
KeptAt in_beside r = IsInside r
KeptAt at_end r = IsOpen r × (1 ≤ length r.frames)

record IsKept (r : Reading) : Type 0 where
  version : (1 ≤ r.version) × (r.version ≤ newest_version)
  room : IsRoom r.room
  latency : (1 ≤ r.latency) × (r.latency ≤ greatest_latency)
  one_out : r.version ≡ 1 → r.latency ≡ 1
  few : length r.frames ≤ 1024
  named : AreNames r.names
  here : KeptAt r.stage r

-- ---- where words can stand

at_its_front : (st : Stage) (r : Reading) → can_stand st scene_word ≡ true → KeptAt st r → IsNothing r × (r.latency ≡ 1)
at_its_front at_front r c h = h
at_its_front at_size r c h = absurd (cc c)
at_its_front at_encoders r c h = absurd (cc c)
at_its_front at_room r c h = absurd (cc c)
at_its_front at_latency r c h = absurd (cc c)
at_its_front at_first_frame r c h = absurd (cc c)
at_its_front in_before r c h = absurd (cc c)
at_its_front in_block r c h = absurd (cc c)
at_its_front in_beside r c h = absurd (cc c)
at_its_front at_end r c h = absurd (cc c)

at_its_size : (st : Stage) (r : Reading) → can_stand st size_word ≡ true → KeptAt st r → IsNothing r
at_its_size at_size r c h = h
at_its_size at_front r c h = absurd (cc c)
at_its_size at_encoders r c h = absurd (cc c)
at_its_size at_room r c h = absurd (cc c)
at_its_size at_latency r c h = absurd (cc c)
at_its_size at_first_frame r c h = absurd (cc c)
at_its_size in_before r c h = absurd (cc c)
at_its_size in_block r c h = absurd (cc c)
at_its_size in_beside r c h = absurd (cc c)
at_its_size at_end r c h = absurd (cc c)

at_its_encoders : (st : Stage) (r : Reading) → can_stand st encoders_word ≡ true → KeptAt st r → IsNothing r × AreSides r.width r.height
at_its_encoders at_encoders r c h = h
at_its_encoders at_front r c h = absurd (cc c)
at_its_encoders at_size r c h = absurd (cc c)
at_its_encoders at_room r c h = absurd (cc c)
at_its_encoders at_latency r c h = absurd (cc c)
at_its_encoders at_first_frame r c h = absurd (cc c)
at_its_encoders in_before r c h = absurd (cc c)
at_its_encoders in_block r c h = absurd (cc c)
at_its_encoders in_beside r c h = absurd (cc c)
at_its_encoders at_end r c h = absurd (cc c)

at_its_room : (st : Stage) (r : Reading) → can_stand st room_word ≡ true → KeptAt st r → IsAhead r
at_its_room at_room r c h = h
at_its_room at_front r c h = absurd (cc c)
at_its_room at_size r c h = absurd (cc c)
at_its_room at_encoders r c h = absurd (cc c)
at_its_room at_latency r c h = absurd (cc c)
at_its_room at_first_frame r c h = absurd (cc c)
at_its_room in_before r c h = absurd (cc c)
at_its_room in_block r c h = absurd (cc c)
at_its_room in_beside r c h = absurd (cc c)
at_its_room at_end r c h = absurd (cc c)

at_its_latency : (st : Stage) (r : Reading) → can_stand st latency_word ≡ true → KeptAt st r → IsAhead r
at_its_latency at_room r c h = h
at_its_latency at_latency r c h = h
at_its_latency at_front r c h = absurd (cc c)
at_its_latency at_size r c h = absurd (cc c)
at_its_latency at_encoders r c h = absurd (cc c)
at_its_latency at_first_frame r c h = absurd (cc c)
at_its_latency in_before r c h = absurd (cc c)
at_its_latency in_block r c h = absurd (cc c)
at_its_latency in_beside r c h = absurd (cc c)
at_its_latency at_end r c h = absurd (cc c)

ahead_open : (r : Reading) → IsAhead r → IsOpen r
ahead_open r h = record {
  sides = h.sides;
  encoders = h.encoders;
  frames = subst (AreFrames (views_in r.version) r.encoders []) (sym h.none) tt;
  bound = ap flags h.unnamed ∙ ap (bound_by_frames []) (sym h.none);
}

inside_open : (r : Reading) → IsInside r → IsOpen r
inside_open r h = record {
  sides = h.sides;
  encoders = h.encoders;
  frames = subst (AreFrames (views_in r.version) r.encoders []) (sym h.frames) (frames_more (views_in r.version) r.encoders [] h.closed h.last h.before h.own);
  bound = h.bound ∙ sym (bound_frames_more [] h.closed h.last) ∙ ap (bound_by_frames []) (sym h.frames);
}

inside_some : (r : Reading) → IsInside r → 1 ≤ length r.frames
inside_some r h = omega (arith, ap length h.frames, length-append h.closed (h.last ∷ []))

at_its_frame : (st : Stage) (r : Reading) → can_stand st frame_word ≡ true → KeptAt st r → IsOpen r
at_its_frame at_room r c h = ahead_open r h
at_its_frame at_latency r c h = ahead_open r h
at_its_frame at_first_frame r c h = ahead_open r h
at_its_frame in_before r c h = inside_open r h.0
at_its_frame in_block r c h = inside_open r h.0
at_its_frame in_beside r c h = inside_open r h
at_its_frame at_front r c h = absurd (cc c)
at_its_frame at_size r c h = absurd (cc c)
at_its_frame at_encoders r c h = absurd (cc c)
at_its_frame at_end r c h = absurd (cc c)

at_its_done : (st : Stage) (r : Reading) → can_stand st done_word ≡ true → KeptAt st r → IsInside r
at_its_done in_before r c h = h.0
at_its_done in_block r c h = h.0
at_its_done in_beside r c h = h
at_its_done at_front r c h = absurd (cc c)
at_its_done at_size r c h = absurd (cc c)
at_its_done at_encoders r c h = absurd (cc c)
at_its_done at_room r c h = absurd (cc c)
at_its_done at_latency r c h = absurd (cc c)
at_its_done at_first_frame r c h = absurd (cc c)
at_its_done at_end r c h = absurd (cc c)

-- a part of the frame may begin where nothing stands beside the drawing
at_its_part : (st : Stage) (r : Reading) → can_stand st beside_word ≡ true → KeptAt st r → (i : IsInside r) × (i.last.beside ≡ [])
at_its_part in_before r c h = (h.0, h.2)
at_its_part in_block r c h = h
at_its_part at_front r c h = absurd (cc c)
at_its_part at_size r c h = absurd (cc c)
at_its_part at_encoders r c h = absurd (cc c)
at_its_part at_room r c h = absurd (cc c)
at_its_part at_latency r c h = absurd (cc c)
at_its_part at_first_frame r c h = absurd (cc c)
at_its_part in_beside r c h = absurd (cc c)
at_its_part at_end r c h = absurd (cc c)

-- where `encoder` can stand, so can `beside`
part_too : (st : Stage) → can_stand st encoder_word ≡ true → can_stand st beside_word ≡ true
part_too in_before c = refl
part_too in_block c = refl
part_too at_front c = c
part_too at_size c = c
part_too at_encoders c = c
part_too at_room c = c
part_too at_latency c = c
part_too at_first_frame c = c
part_too in_beside c = c
part_too at_end c = c

-- ---- the words of the order of lines

scene_kept : (r : Reading) (fs : List Field) → can_stand r.stage scene_word ≡ true → IsKept r → AllRead IsKept (after_word whole_language r fs scene_word)
unfolding after_word
scene_kept r fs place h =
    let f = at_its_front r.stage r place h.here in
    past (has_count 2 fs) _ (λ b _. behind (number_in 1 newest_version (field fs 1)) _ (number_bound 1 newest_version (field fs 1)) (λ n k.
    made IsKept (with_version n r) (record { version = k; room = h.room; latency = h.latency; one_out = λ e. f.1; few = h.few; named = h.named; here = f.0 })))

size_kept : (r : Reading) (fs : List Field) → can_stand r.stage size_word ≡ true → IsKept r → AllRead IsKept (after_word whole_language r fs size_word)
unfolding after_word
size_kept r fs place h =
    past (has_count 3 fs) _ (λ b _. behind (number_in 1 2048 (field fs 1)) _ (number_bound 1 2048 (field fs 1)) (λ x wide. behind (number_in 1 2048 (field fs 2)) _ (number_bound 1 2048 (field fs 2)) (λ y high.
    made IsKept (with_size x y r) (record { version = h.version; room = h.room; latency = h.latency; one_out = h.one_out; few = h.few; named = h.named; here = (at_its_size r.stage r place h.here, (wide.0, high.0, wide.1, high.1)) }))))

encoders_kept : (r : Reading) (fs : List Field) → can_stand r.stage encoders_word ≡ true → IsKept r → AllRead IsKept (after_word whole_language r fs encoders_word)
unfolding after_word
encoders_kept r fs place h =
    let f = at_its_encoders r.stage r place h.here in
    past (has_count 2 fs) _ (λ b _. behind (number_in 1 8 (field fs 1)) _ (number_bound 1 8 (field fs 1)) (λ n k.
    made IsKept (with_encoders n r) (record { version = h.version; room = h.room; latency = h.latency; one_out = h.one_out; few = h.few; named = h.named; here = record { none = f.0.0; unnamed = f.0.1; sides = f.1; encoders = k } })))

room_bound : (fs : List Field) → AllRead IsRoom (room_form fs)
room_bound fs =
    past (has_count 4 fs) _ (λ b _. behind (number_in 1 8191 (field fs 1)) _ (number_bound 1 8191 (field fs 1)) (λ i p. behind (number_in 0 1048576 (field fs 2)) _ (number_bound 0 1048576 (field fs 2)) (λ b q.
    behind (number_in 0 8191 (field fs 3)) _ (number_bound 0 8191 (field fs 3)) (λ u s. made IsRoom (record { items = i; bytes = b; uniforms = u }) (p.0, p.1, q.1, s.1)))))

room_kept : (r : Reading) (fs : List Field) → can_stand r.stage room_word ≡ true → IsKept r → AllRead IsKept (after_word whole_language r fs room_word)
unfolding after_word
room_kept r fs place h =
    let f = at_its_room r.stage r place h.here in
    behind (room_form fs) _ (room_bound fs) (λ room k.
    made IsKept (with_room room r) (record { version = h.version; room = k; latency = h.latency; one_out = h.one_out; few = h.few; named = h.named; here = record { none = f.none; unnamed = f.unnamed; sides = f.sides; encoders = f.encoders } }))

not_one : (version : ℕ) → says_latency version ≡ true → version ≡ 1 → ⊥
not_one version s e = absurd (true_false (sym s ∙ rw e refl))

latency_kept : (r : Reading) (fs : List Field) → can_stand r.stage latency_word ≡ true → says_latency r.version ≡ true → IsKept r → AllRead IsKept (after_word whole_language r fs latency_word)
unfolding after_word
latency_kept r fs place says h =
    let f = at_its_latency r.stage r place h.here in
    past (has_count 2 fs) _ (λ b _. behind (number_in 1 greatest_latency (field fs 1)) _ (number_bound 1 greatest_latency (field fs 1)) (λ n k.
    made IsKept (with_latency n r) (record { version = h.version; room = h.room; latency = k; one_out = λ e. absurd (not_one r.version says e); few = h.few; named = h.named; here = record { none = f.none; unnamed = f.unnamed; sides = f.sides; encoders = f.encoders } })))

empty_fits : (views n : ℕ) (bound : List Bool) → IsFrame views n bound empty_frame
empty_fits views n bound = record { before = tt; ascending = tt; blocks = tt; beside = tt }

frame_kept : (r : Reading) (fs : List Field) → can_stand r.stage frame_word ≡ true → IsKept r → AllRead IsKept (after_word whole_language r fs frame_word)
unfolding after_word
frame_kept r fs place h =
    let f = at_its_frame r.stage r place h.here in
    past (has_count 1 fs) _ (λ b _. past (unless (nat_lt (length r.frames) 1024) out_of_range) _ (λ c k.
    made IsKept (with_new_frame r) (record {
      version = h.version;
      room = h.room;
      latency = h.latency;
      one_out = h.one_out;
      few = omega (arith, length-append r.frames (empty_frame ∷ []), ltb-true (length r.frames) 1024 (unless_ok (nat_lt (length r.frames) 1024) out_of_range c k));
      named = h.named;
      here = (
        record { sides = f.sides; encoders = f.encoders; closed = r.frames; last = empty_frame; frames = refl; before = f.frames; own = empty_fits (views_in r.version) r.encoders (bound_by_frames [] r.frames); bound = f.bound },
        refl,
        refl,
      );
    })))

done_kept : (r : Reading) (fs : List Field) → can_stand r.stage done_word ≡ true → IsKept r → AllRead IsKept (after_word whole_language r fs done_word)
unfolding after_word
done_kept r fs place h =
    let i = at_its_done r.stage r place h.here in
    let o = inside_open r i in
    past (has_count 1 fs) _ (λ b _.
    made IsKept (at_stage at_end r) (record { version = h.version; room = h.room; latency = h.latency; one_out = h.one_out; few = h.few; named = h.named; here = (record { sides = o.sides; encoders = o.encoders; frames = o.frames; bound = o.bound }, inside_some r i) }))

-- ---- the words inside a frame

in_same : (k e : ℕ) → in_range 0 255 k ≡ Ok e → k ≡ e
in_same k e u = by (leb 0 k && leb k 255) u
  where
    by : (b : Bool) → cond {A = Read ℕ} b (Ok k) (Err out_of_range) ≡ Ok e → k ≡ e
    by true u = cc u
    by false u = absurd (cc u)

-- the number of a block that may stand is below the number of encoders, and above that of the block before
next_bound : (n : ℕ) (last : Option ℕ) (f : Field) (e : ℕ) → is_next_of n last f ≡ true → u8_number f ≡ Ok e → (e < n) × (follows e last ≡ true)
next_bound n last f e p u = by (is_numeral f) p u
  where
    by : (b : Bool) → cond b (nat_lt (value_onto 0 f) n && follows (value_onto 0 f) last) true ≡ true → (cond {A = Read ℕ} b (Ok (value_onto 0 f)) (Err no_number) >>= in_range 0 255) ≡ Ok e → (e < n) × (follows e last ≡ true)
    by true p u =
        let t = both (nat_lt (value_onto 0 f) n) (follows (value_onto 0 f) last) p in
        let same = in_same (value_onto 0 f) e u in
        (omega (arith, ltb-true (value_onto 0 f) n t.0, same), subst (λ k. follows k last ≡ true) same t.1)
    by false p u = absurd (cc u)

-- the last frame changed
changed : (g : SceneFrame → SceneFrame) (fs closed : List SceneFrame) (f : SceneFrame) → fs ≡ closed ++ f ∷ [] → on_last g fs ≡ closed ++ g f ∷ []
changed g fs closed f e = ap (on_last g) e ∙ on_last-append g closed f

encoder_kept : (r : Reading) (fs : List Field) → can_stand r.stage encoder_word ≡ true → is_next_of r.encoders (last_encoder (blocks_of_last r.frames)) (field fs 1) ≡ true → IsKept r → AllRead IsKept (after_word whole_language r fs encoder_word)
unfolding after_word
encoder_kept r fs place next h =
    let p = at_its_part r.stage r (part_too r.stage place) h.here in
    let i = p.0 in
    past (has_count 2 fs) _ (λ b _. past (u8_number (field fs 1)) _ (λ e k.
    let n = next_bound r.encoders (last_encoder (blocks_of_last r.frames)) (field fs 1) e next k in
    let follows_last = subst (λ bs. follows e (last_encoder bs) ≡ true) (ap blocks_of_last i.frames ∙ last_blocks i.closed i.last) n.1 in
    made IsKept (at_stage in_block (on_last_frame (with_block e) r)) (record {
      version = h.version;
      room = h.room;
      latency = h.latency;
      one_out = h.one_out;
      few = omega (arith, same_length (with_block e) r.frames, h.few);
      named = h.named;
      here = (
        record {
          sides = i.sides;
          encoders = i.encoders;
          closed = i.closed;
          last = with_block e i.last;
          frames = changed (with_block e) r.frames i.closed i.last i.frames;
          before = i.before;
          own = block_fits (views_in r.version) r.encoders (bound_by_frames [] i.closed) i.last e n.0 follows_last i.own;
          bound = i.bound;
        },
        p.1,
      );
    })))

beside_kept : (r : Reading) (fs : List Field) → can_stand r.stage beside_word ≡ true → IsKept r → AllRead IsKept (after_word whole_language r fs beside_word)
unfolding after_word
beside_kept r fs place h =
    let i = (at_its_part r.stage r place h.here).0 in
    past (has_count 1 fs) _ (λ b _.
    made IsKept (at_stage in_beside r) (record {
      version = h.version;
      room = h.room;
      latency = h.latency;
      one_out = h.one_out;
      few = h.few;
      named = h.named;
      here = record { sides = i.sides; encoders = i.encoders; closed = i.closed; last = i.last; frames = i.frames; before = i.before; own = i.own; bound = i.bound };
    }))

-- ---- resource lines

-- a resource line goes to the part of the frame in which it stands
resource_here : (r : Reading) (w : Word) (l : Named ResourceLine) → IsResourceWord w → (st : Stage) → r.stage ≡ st → can_stand st w ≡ true → Fits (views_in r.version) r.names l → KeptAt st r → KeptAt st (with_names l.1 (with_resource_line l.0 r))
resource_here r w l is in_before at c fit h =
    let i = h.0 in
    let here = bound_by_frames [] i.closed in
    let line : IsResourceLine (views_in r.version) (bound_by_frame here i.last) l.0 = subst (λ b. IsResourceLine (views_in r.version) b l.0) i.bound fit.0 in
    let grown : bound_by_frame here (with_before_line l.0 i.last) ≡ bound_by (bound_by_frame here i.last) l.0
    = ap (bound_by_lines (bound_by_lines here (i.last.before ++ l.0 ∷ []))) h.2 ∙ bound_more here i.last.before l.0 ∙ ap (λ ls. bound_by (bound_by_lines (bound_by_lines here i.last.before) ls) l.0) (sym h.2) in (
      record {
        sides = i.sides;
        encoders = i.encoders;
        closed = i.closed;
        last = with_before_line l.0 i.last;
        frames = ap (λ s. on_last (cond (is_beside s) (with_beside_line l.0) (with_before_line l.0)) r.frames) at ∙ changed (with_before_line l.0) r.frames i.closed i.last i.frames;
        before = i.before;
        own = before_fits (views_in r.version) r.encoders here i.last l.0 h.1 h.2 line i.own;
        bound = fit.1 ∙ ap (λ b. bound_by b l.0) i.bound ∙ sym grown;
      },
      h.1,
      h.2,
    )
resource_here r w l is in_beside at c fit i =
    let here = bound_by_frames [] i.closed in
    let line : IsResourceLine (views_in r.version) (bound_by_frame here i.last) l.0 = subst (λ b. IsResourceLine (views_in r.version) b l.0) i.bound fit.0 in
    record {
      sides = i.sides;
      encoders = i.encoders;
      closed = i.closed;
      last = with_beside_line l.0 i.last;
      frames = ap (λ s. on_last (cond (is_beside s) (with_beside_line l.0) (with_before_line l.0)) r.frames) at ∙ changed (with_beside_line l.0) r.frames i.closed i.last i.frames;
      before = i.before;
      own = beside_fits (views_in r.version) r.encoders here i.last l.0 line i.own;
      bound = fit.1 ∙ ap (λ b. bound_by b l.0) i.bound ∙ sym (bound_more (bound_by_lines here i.last.before) i.last.beside l.0);
    }
resource_here r w l is at_front at c fit h = absurd (not_both is.0 c)
resource_here r w l is at_size at c fit h = absurd (not_both is.1 c)
resource_here r w l is at_encoders at c fit h = absurd (not_both is.2 c)
resource_here r w l is at_room at c fit h = absurd (none_of_three (is_room_word w) (is_latency_word w) (is_frame_word w) is.3 is.4 is.5 c)
resource_here r w l is at_latency at c fit h = absurd (none_of_two (is_latency_word w) (is_frame_word w) is.4 is.5 c)
resource_here r w l is at_first_frame at c fit h = absurd (not_both is.5 c)
resource_here r w l is in_block at c fit h = absurd (none_of_three (is_encoder_word w) (opens_part w) (ends_frame w) is.6 is.7 is.8 c)
resource_here r w l is at_end at c fit h = absurd (cc c)

resource_kept : (r : Reading) (fs : List Field) (w : Word) → IsResourceWord w → can_stand r.stage w ≡ true → IsKept r → AllRead IsKept (after_resource whole_language r fs w)
unfolding after_resource
resource_kept r fs w is place h = behind (resource_form whole_language (views_in r.version) r.names fs w) _ (resource_fits (views_in r.version) r.names fs w) (λ l fit.
    made IsKept (with_names l.1 (with_resource_line l.0 r)) (record {
      version = h.version;
      room = h.room;
      latency = h.latency;
      one_out = h.one_out;
      few = omega (arith, same_length (cond (is_beside r.stage) (with_beside_line l.0) (with_before_line l.0)) r.frames, h.few);
      named = fit.2 h.named;
      here = resource_here r w l is r.stage refl place fit h.here;
    }))

-- ---- encoder lines

line_here : (r : Reading) (w : Word) (l : EncoderLine) → IsEncoderWord w → (st : Stage) → can_stand st w ≡ true → IsEncoderLine (flags r.names) l → KeptAt st r → KeptAt st (on_last_frame (with_encoder_line l) r)
line_here r w l is in_block c fit h =
    let i = h.0 in
    let here = bound_by_frames [] i.closed in
    let line : IsEncoderLine (bound_by_frame here i.last) l = subst (λ b. IsEncoderLine b l) i.bound fit in (
      record {
        sides = i.sides;
        encoders = i.encoders;
        closed = i.closed;
        last = with_encoder_line l i.last;
        frames = changed (with_encoder_line l) r.frames i.closed i.last i.frames;
        before = i.before;
        own = line_fits (views_in r.version) r.encoders here i.last l h.1 line i.own;
        bound = i.bound;
      },
      h.1,
    )
line_here r w l is at_front c fit h = absurd (not_both is.0 c)
line_here r w l is at_size c fit h = absurd (not_both is.1 c)
line_here r w l is at_encoders c fit h = absurd (not_both is.2 c)
line_here r w l is at_room c fit h = absurd (none_of_three (is_room_word w) (is_latency_word w) (is_frame_word w) is.3 is.4 is.5 c)
line_here r w l is at_latency c fit h = absurd (none_of_two (is_latency_word w) (is_frame_word w) is.4 is.5 c)
line_here r w l is at_first_frame c fit h = absurd (not_both is.5 c)
line_here r w l is in_before c fit h = absurd (none_of_three (is_resource_word w) (opens_part w) (ends_frame w) is.6 is.7 is.8 c)
line_here r w l is in_beside c fit h = absurd (none_of_two (is_resource_word w) (ends_frame w) is.6 is.8 c)
line_here r w l is at_end c fit h = absurd (cc c)

line_kept : (r : Reading) (fs : List Field) (w : Word) → IsEncoderWord w → can_stand r.stage w ≡ true → IsKept r → AllRead IsKept (after_encoder_line r fs w)
unfolding after_encoder_line
line_kept r fs w is place h = behind (encoder_form r.names fs w) _ (encoder_fits r.names fs w) (λ l fit.
    made IsKept (on_last_frame (with_encoder_line l) r) (record {
      version = h.version;
      room = h.room;
      latency = h.latency;
      one_out = h.one_out;
      few = omega (arith, same_length (with_encoder_line l) r.frames, h.few);
      named = h.named;
      here = line_here r w l is r.stage place fit h.here;
    }))

-- ---- a line

word_kept : (r : Reading) (fs : List Field) (w : Word) → is_in_place r w fs ≡ true → IsKept r → AllRead IsKept (after_word whole_language r fs w)
unfolding after_word
word_kept r fs scene_word place h = scene_kept r fs place h
word_kept r fs size_word place h = size_kept r fs place h
word_kept r fs encoders_word place h = encoders_kept r fs place h
word_kept r fs room_word place h = room_kept r fs place h
word_kept r fs latency_word place h = let p = both (can_stand r.stage latency_word) (says_latency r.version) place in latency_kept r fs p.0 p.1 h
word_kept r fs frame_word place h = frame_kept r fs place h
word_kept r fs encoder_word place h = let p = both (can_stand r.stage encoder_word) (is_next_of r.encoders (last_encoder (blocks_of_last r.frames)) (field fs 1)) place in encoder_kept r fs p.0 p.1 h
word_kept r fs beside_word place h = beside_kept r fs place h
word_kept r fs done_word place h = done_kept r fs place h
word_kept r fs journal_word place h = none_made _ misplaced_word
word_kept r fs layout_word place h = resource_kept r fs layout_word (refl, refl, refl, refl, refl, refl, refl, refl, refl) place h
word_kept r fs vertex_buffer_word place h = resource_kept r fs vertex_buffer_word (refl, refl, refl, refl, refl, refl, refl, refl, refl) place h
word_kept r fs index_buffer_word place h = resource_kept r fs index_buffer_word (refl, refl, refl, refl, refl, refl, refl, refl, refl) place h
word_kept r fs texture_word place h = resource_kept r fs texture_word (refl, refl, refl, refl, refl, refl, refl, refl, refl) place h
word_kept r fs frame_buffer_word place h = resource_kept r fs frame_buffer_word (refl, refl, refl, refl, refl, refl, refl, refl, refl) place h
word_kept r fs program_word place h = resource_kept r fs program_word (refl, refl, refl, refl, refl, refl, refl, refl, refl) place h
word_kept r fs uniform_word place h = resource_kept r fs uniform_word (refl, refl, refl, refl, refl, refl, refl, refl, refl) place h
word_kept r fs update_word place h = resource_kept r fs update_word (refl, refl, refl, refl, refl, refl, refl, refl, refl) place h
word_kept r fs texel_update_word place h = resource_kept r fs texel_update_word (refl, refl, refl, refl, refl, refl, refl, refl, refl) place h
word_kept r fs destroy_word place h = resource_kept r fs destroy_word (refl, refl, refl, refl, refl, refl, refl, refl, refl) place h
word_kept r fs view_word place h = resource_kept r fs view_word (refl, refl, refl, refl, refl, refl, refl, refl, refl) place h
word_kept r fs order_word place h = resource_kept r fs order_word (refl, refl, refl, refl, refl, refl, refl, refl, refl) place h
word_kept r fs state_word place h = line_kept r fs state_word (refl, refl, refl, refl, refl, refl, refl, refl, refl) place h
word_kept r fs stencil_word place h = line_kept r fs stencil_word (refl, refl, refl, refl, refl, refl, refl, refl, refl) place h
word_kept r fs scissor_word place h = line_kept r fs scissor_word (refl, refl, refl, refl, refl, refl, refl, refl, refl) place h
word_kept r fs transform_word place h = line_kept r fs transform_word (refl, refl, refl, refl, refl, refl, refl, refl, refl) place h
word_kept r fs vertices_word place h = line_kept r fs vertices_word (refl, refl, refl, refl, refl, refl, refl, refl, refl) place h
word_kept r fs indices_word place h = line_kept r fs indices_word (refl, refl, refl, refl, refl, refl, refl, refl, refl) place h
word_kept r fs transient_vertices_word place h = line_kept r fs transient_vertices_word (refl, refl, refl, refl, refl, refl, refl, refl, refl) place h
word_kept r fs transient_indices_word place h = line_kept r fs transient_indices_word (refl, refl, refl, refl, refl, refl, refl, refl, refl) place h
word_kept r fs bind_word place h = line_kept r fs bind_word (refl, refl, refl, refl, refl, refl, refl, refl, refl) place h
word_kept r fs set_word place h = line_kept r fs set_word (refl, refl, refl, refl, refl, refl, refl, refl, refl) place h
word_kept r fs submit_word place h = line_kept r fs submit_word (refl, refl, refl, refl, refl, refl, refl, refl, refl) place h
word_kept r fs touch_word place h = line_kept r fs touch_word (refl, refl, refl, refl, refl, refl, refl, refl, refl) place h
word_kept r fs blit_word place h = line_kept r fs blit_word (refl, refl, refl, refl, refl, refl, refl, refl, refl) place h

fields_kept : (r : Reading) (fs : List Field) (w : Option Word) → IsKept r → AllRead IsKept (after_fields whole_language r fs w)
fields_kept r fs None h = λ q e. absurd (cc e)
fields_kept r fs (Some w) h =
    past (unless (not (is_other_version newest_version fs)) unknown_version) _ (λ a _.
    past (unless (is_in_place r w fs) misplaced_word) _ (λ b place.
    past (are_filled_before w fs) _ (λ c _. word_kept r fs w (unless_ok (is_in_place r w fs) misplaced_word b place) h)))

one_kept : (r : Reading) (fs : List Field) → IsKept r → AllRead IsKept (after_kept r fs)
one_kept r fs h = past (unless (list_all (list_all is_text_byte) fs) bad_byte) _ (λ b _. fields_kept r fs (find_word words (field fs 0)) h)

lines_kept : (lines : List (List Field)) (r : Reading) → IsKept r → AllRead IsKept (read_fields r lines)
lines_kept [] r h = made IsKept r h
lines_kept (fs ∷ lines) r h = behind (after_kept r fs) _ (one_kept r fs h) (λ q k. lines_kept lines q k)

-- ---- whole texts

first_kept : IsKept nothing_read
unfolding IsDistinct
first_kept = record {
  version = (omega arith, omega arith);
  room = (omega arith, omega arith, omega arith, omega arith);
  latency = (omega arith, omega arith);
  one_out = λ e. refl;
  few = omega arith;
  named = (tt, tt);
  here = ((refl, refl), refl);
}

at_its_end : (st : Stage) (r : Reading) → is_at_end st ≡ true → KeptAt st r → IsOpen r × (1 ≤ length r.frames)
at_its_end at_end r c h = h
at_its_end at_front r c h = absurd (cc c)
at_its_end at_size r c h = absurd (cc c)
at_its_end at_encoders r c h = absurd (cc c)
at_its_end at_room r c h = absurd (cc c)
at_its_end at_latency r c h = absurd (cc c)
at_its_end at_first_frame r c h = absurd (cc c)
at_its_end in_before r c h = absurd (cc c)
at_its_end in_block r c h = absurd (cc c)
at_its_end in_beside r c h = absurd (cc c)

end_readable : (r : Reading) → IsKept r → is_at_end r.stage ≡ true → IsReadable (scene_read r)
end_readable r h end =
    let e = at_its_end r.stage r end h.here in
    let o = e.0 in
    record {
      known_version = h.version;
      sides = record { wide = o.sides.0; high = o.sides.1; narrow = o.sides.2; low = o.sides.3 };
      encoders = o.encoders;
      room = h.room;
      latency = h.latency;
      one_out = h.one_out;
      frame_count = (e.1, h.few);
      frames = o.frames;
      names = h.named.0;
      distinct = h.named.1;
      all_bound = ap length (sym o.bound) ∙ flags_length r.names ∙ sym (length_texts r.names);
    }

-- a scene that some bytes are is readable
pub reads-readable : (bytes : List ℕ) (s : Scene) → scene_of whole_language bytes ≡ Ok s → IsReadable s
reads-readable bytes s e =
    let t = fields_read bytes s e in
    subst IsReadable t.4 (end_readable t.1 (lines_kept (kept_fields bytes) nothing_read first_kept t.1 t.2) t.3)
