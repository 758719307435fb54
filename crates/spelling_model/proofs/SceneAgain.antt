-- What is written of a scene in its ranges is read as that scene.
use Rattle.std.proofs.Common.{◌≡◌, ℕ, ◌+◌, ◌^◌, ◌<◌, ◌≤◌, nat_lt, leb, Bool, true, false, not, ◌&&◌, ◌==◌, eqb-true, cond, List, [], ◌∷◌, ◌++◌, map, length, length-append, Ok, Err, refl, ap, subst, sym, ◌∙◌, arith, append_assoc}
use Rattle.std.specs.Prelude.{codes, flat_map}
use Rattle.std.specs.List.{AllByRecursion}
use Rattle.std.specs.Fmt.{decimal}
use Rattle.std.proofs.lemmas.Bool.{ne_eqb}
use Rattle.std.proofs.lemmas.Bool.Decides.{nat_tests}
use Rattle.std.proofs.lemmas.List.{append-nil}
use Rattle.gfx_model.specs.Recorder.{Room}
use Rattle.scene_model.specs.Scene.{ResourceLine, Block, SceneFrame, Scene, newest_version, greatest_latency, views_in}
use Rattle.scene_model.specs.Field.{Read, out_of_range, no_number, BoundName, value_onto, natural, in_range, number_in, u8_number}
use Rattle.scene_model.specs.Grammar.{Field, scene_word, size_word, encoders_word, room_word, latency_word, frame_word, encoder_word, beside_word, done_word, Stage, at_front, at_size, at_encoders, at_room, at_latency, at_first_frame, in_before, in_block, in_beside, at_end, can_stand, Reading, nothing_read, empty_frame, with_version, with_size, with_encoders, with_room, with_latency, with_block, last_encoder, blocks_of_last, unless, is_other_version, is_read, follows, is_next_of, says_latency, is_in_place, room_form, after_word, scene_read}
use Rattle.scene_model.proofs.NumberTexts.{decimal-value, decimal-numeral}
use Rattle.spelling_model.specs.LineSpelling.{resource_fields, block_lines, beside_lines, frame_lines, frames_lines, latency_lines, head_lines, spelled_lines}
use Rattle.spelling_model.specs.Written.{has_beside}
use Rattle.spelling_model.specs.Readable.{bound_by_lines, bound_by_frame, bound_by_frames, AreResourceLines, AreAscending, IsBlock, IsFrame, AreFrames, IsRoom, IsReadable}
use Rattle.spelling_model.proofs.ReadLines.{after_kept, read_fields}
use Rattle.spelling_model.proofs.Names.{texts}
use Rattle.spelling_model.proofs.SoFar.{moved, on_last-append}
use Rattle.spelling_model.proofs.Stages.{read-append}
use Rattle.spelling_model.proofs.FrameRanges.{last_blocks}
use Rattle.spelling_model.proofs.FieldsAgain.{goes_on, number_again, u8_again}
use Rattle.spelling_model.proofs.NamesAgain.{named, HasNames}
use Rattle.spelling_model.proofs.Spelled.{IsSpelled, decimal_spelled, u8_spelled}
use Rattle.spelling_model.proofs.Growing.{lines_grow, frames_grow}
use Rattle.spelling_model.proofs.StepsAgain.{kept_again, inside, before_again, beside_again, with_last, encoder_lines_again}

-- lines one behind the other
pub then : (xs ys : List (List Field)) (r q : Reading) (m : Read Reading) → read_fields r xs ≡ Ok q → read_fields q ys ≡ m → read_fields r (xs ++ ys) ≡ m
then xs ys r q m a b = read-append xs ys r ∙ goes_on (read_fields r xs) q (λ q. read_fields q ys) a ∙ b

-- ---- blocks

-- a reading that a block or a `beside` line may follow
abbrev AtDrawing : Stage → Type 0
AtDrawing st = can_stand st beside_word ≡ true

part_too : (st : Stage) → can_stand st beside_word ≡ true → can_stand st encoder_word ≡ true
part_too in_before c = refl
part_too in_block c = refl
part_too at_front c = c
part_too at_size c = c
part_too at_encoders c = c
part_too at_room c = c
part_too at_latency c = c
part_too at_first_frame c = c
part_too in_beside c = c
part_too at_end c = c

drawing_ends : (st : Stage) → can_stand st beside_word ≡ true → can_stand st done_word ≡ true
drawing_ends in_before c = refl
drawing_ends in_block c = refl
drawing_ends at_front c = c
drawing_ends at_size c = c
drawing_ends at_encoders c = c
drawing_ends at_room c = c
drawing_ends at_latency c = c
drawing_ends at_first_frame c = c
drawing_ends in_beside c = absurd (cc c)
drawing_ends at_end c = c

frame_too : (st : Stage) → can_stand st done_word ≡ true → can_stand st frame_word ≡ true
frame_too in_before c = refl
frame_too in_block c = refl
frame_too in_beside c = refl
frame_too at_room c = refl
frame_too at_latency c = refl
frame_too at_first_frame c = refl
frame_too at_front c = c
frame_too at_size c = c
frame_too at_encoders c = c
frame_too at_end c = c

ascending_next : (done : List Block) (b : Block) (rest : List Block) → AreAscending (done ++ b ∷ rest) → follows b.encoder (last_encoder done) ≡ true
ascending_next [] b rest h = refl
ascending_next (a ∷ []) b rest h = let l = h.0 in grind (arith, nat_tests, l)
ascending_next (a ∷ c ∷ done) b rest h = ascending_next (c ∷ done) b rest h.1

block_line : (base : Reading) (st : Stage) (names : List BoundName) (closed : List SceneFrame) (f : SceneFrame) (e : ℕ) → AtDrawing st → e < base.encoders → base.encoders ≤ 8 → follows e (last_encoder f.blocks) ≡ true
    → after_kept (inside base st names closed f) (codes "encoder" ∷ decimal e ∷ []) ≡ Ok (inside base in_block names closed (with_block e f))
unfolding after_word
block_line base st names closed f e at lt few next =
    let r = inside base st names closed f in
    let small : e ≤ 255 = omega (arith, lt, few) in
    let wide : e < 2 ^ 64 = omega (arith, lt, few) in
    let below : nat_lt e base.encoders ≡ true = grind (arith, nat_tests, lt) in
    let number : is_next_of base.encoders (last_encoder (blocks_of_last r.frames)) (decimal e) ≡ true
    = ap (λ t. cond t (nat_lt (value_onto 0 (decimal e)) base.encoders && follows (value_onto 0 (decimal e)) (last_encoder (blocks_of_last r.frames))) true) (decimal-numeral e wide)
    ∙ ap (λ n. nat_lt n base.encoders && follows n (last_encoder (blocks_of_last r.frames))) (decimal-value e wide)
    ∙ ap (λ bs. nat_lt e base.encoders && follows e (last_encoder bs)) (last_blocks closed f)
    ∙ rw (below, next) refl in
    let place : is_in_place r encoder_word (codes "encoder" ∷ decimal e ∷ []) ≡ true = rw (part_too st at, number) refl in
    kept_again r (codes "encoder" ∷ decimal e ∷ []) encoder_word ((refl, refl), (u8_spelled e small, tt)) (record { found = refl; not_other = refl; filled = λ h. h }) place
    ∙ goes_on (u8_number (decimal e)) e _ (u8_again e small)
    ∙ ap (λ fs. Ok (moved base in_block names fs)) (on_last-append (with_block e) closed f)

-- the frame with these blocks
abbrev with_blocks : SceneFrame → List Block → SceneFrame
with_blocks f blocks = record f { blocks = blocks }

blocks_again : (all : List Field) (bound : List Bool) (base : Reading) (closed : List SceneFrame) (f : SceneFrame) (done blocks : List Block) (st : Stage) → HasNames all → length bound ≤ length all → base.encoders ≤ 8 → AreAscending (done ++ blocks) → AllByRecursion (IsBlock base.encoders bound) blocks → AtDrawing st
    → (q : Stage) × AtDrawing q × (read_fields (inside base st (named all bound) closed (with_blocks f done)) (flat_map (block_lines all) blocks) ≡ Ok (inside base q (named all bound) closed (with_blocks f (done ++ blocks))))
blocks_again all bound base closed f done [] st h le few up k at = (st, at, ap (λ bs. Ok (inside base st (named all bound) closed (with_blocks f bs))) (sym (append-nil done)))
blocks_again all bound base closed f done (b ∷ blocks) st h le few up k at =
    let names = named all bound in
    let next = ascending_next done b blocks up in
    let line = block_line base st names closed (with_blocks f done) b.encoder at k.0.0 few next in
    let lines = encoder_lines_again all bound base closed f done b.encoder b.lines [] h le k.0.1 in
    let order : AreAscending ((done ++ b ∷ []) ++ blocks) = subst AreAscending (sym (append_assoc done (b ∷ []) blocks)) up in
    let rest = blocks_again all bound base closed f (done ++ b ∷ []) blocks in_block h le few order k.1 refl in
    let own : read_fields (inside base st names closed (with_blocks f done)) (block_lines all b) ≡ Ok (inside base in_block names closed (with_last f done b.encoder b.lines))
    = goes_on (after_kept (inside base st names closed (with_blocks f done)) (codes "encoder" ∷ decimal b.encoder ∷ [])) (inside base in_block names closed (with_last f done b.encoder [])) _ line ∙ lines in (
      rest.0,
      rest.1,
      then (block_lines all b) (flat_map (block_lines all) blocks) (inside base st names closed (with_blocks f done)) (inside base in_block names closed (with_last f done b.encoder b.lines)) _ own
          (rest.2 ∙ ap (λ bs. Ok (inside base rest.0 names closed (with_blocks f bs))) (append_assoc done (b ∷ []) blocks)),
    )

-- ---- frames

beside_line : (base : Reading) (st : Stage) (names : List BoundName) (closed : List SceneFrame) (f : SceneFrame) → AtDrawing st → after_kept (inside base st names closed f) (codes "beside" ∷ []) ≡ Ok (inside base in_beside names closed f)
unfolding after_word
beside_line base st names closed f at = kept_again (inside base st names closed f) (codes "beside" ∷ []) beside_word ((refl, refl), tt) (record { found = refl; not_other = refl; filled = λ h. h }) at

frame_line : (base : Reading) (st : Stage) (names : List BoundName) (closed : List SceneFrame) → can_stand st frame_word ≡ true → length closed < 1024 → after_kept (moved base st names closed) (codes "frame" ∷ []) ≡ Ok (inside base in_before names closed empty_frame)
unfolding after_word
frame_line base st names closed at lt =
    let few : nat_lt (length closed) 1024 ≡ true = grind (arith, nat_tests, lt) in
    kept_again (moved base st names closed) (codes "frame" ∷ []) frame_word ((refl, refl), tt) (record { found = refl; not_other = refl; filled = λ h. h }) at
    ∙ goes_on (unless (nat_lt (length closed) 1024) out_of_range) true _ (ap (λ t. unless t out_of_range) few)

-- a reading that a frame's end may follow
abbrev AtEnd : Stage → Type 0
AtEnd st = can_stand st done_word ≡ true

beside_part : (all : List Field) (bound : List Bool) (base : Reading) (closed : List SceneFrame) (f : SceneFrame) (lines : List ResourceLine) (st : Stage) → HasNames all → length (bound_by_lines bound lines) ≤ length all → f.beside ≡ [] → AtDrawing st → AreResourceLines (views_in base.version) bound lines
    → (q : Stage) × AtEnd q × (read_fields (inside base st (named all bound) closed f) (beside_lines all (not (length lines == 0)) lines) ≡ Ok (inside base q (named all (bound_by_lines bound lines)) closed (record f { beside = lines })))
beside_part all bound base closed f [] st h le none at k = (st, drawing_ends st at, ap (λ b. Ok (inside base st (named all bound) closed (record f { beside = b }))) none)
beside_part all bound base closed f (l ∷ lines) st h le none at k = (
  in_beside,
  refl,
  ap (λ t. read_fields (inside base st (named all bound) closed f) (beside_lines all (not t) (l ∷ lines))) (ne_eqb (length (l ∷ lines)) 0 (λ e. omega (arith, e)))
      ∙ goes_on (after_kept (inside base st (named all bound) closed f) (codes "beside" ∷ [])) (inside base in_beside (named all bound) closed f) _ (beside_line base st (named all bound) closed f at)
      ∙ beside_again all base closed (l ∷ lines) bound f h le k
      ∙ ap (λ b. Ok (inside base in_beside (named all (bound_by_lines bound (l ∷ lines))) closed (record f { beside = b ++ l ∷ lines }))) none,
)

frame_again : (all : List Field) (bound : List Bool) (base : Reading) (closed : List SceneFrame) (f : SceneFrame) (st : Stage) → HasNames all → base.encoders ≤ 8 → length (bound_by_frame bound f) ≤ length all → length closed < 1024 → IsFrame (views_in base.version) base.encoders bound f → can_stand st frame_word ≡ true
    → (q : Stage) × AtEnd q × (read_fields (moved base st (named all bound) closed) (frame_lines all (has_beside f) f) ≡ Ok (inside base q (named all (bound_by_frame bound f)) closed f))
frame_again all bound base closed f st h few le lt k at =
    let here = bound_by_lines bound f.before in
    let grown : length here ≤ length all = (let g = lines_grow here f.beside in omega (arith, g, le)) in
    let f1 : SceneFrame = record { before = f.before; blocks = []; beside = [] } in
    let f2 : SceneFrame = record { before = f.before; blocks = f.blocks; beside = [] } in
    let line = frame_line base st (named all bound) closed at lt in
    let before = before_again all base closed f.before bound empty_frame h grown k.before in
    let blocks = blocks_again all here base closed f1 [] f.blocks in_before h grown few k.ascending k.blocks refl in
    let beside = beside_part all here base closed f2 f.beside blocks.0 h le refl blocks.1 k.beside in (
      beside.0,
      beside.1,
      goes_on (after_kept (moved base st (named all bound) closed) (codes "frame" ∷ [])) (inside base in_before (named all bound) closed empty_frame) _ line
          ∙ then (map (resource_fields all) f.before) (flat_map (block_lines all) f.blocks ++ beside_lines all (has_beside f) f.beside) (inside base in_before (named all bound) closed empty_frame) (inside base in_before (named all here) closed f1) _ before
          (then (flat_map (block_lines all) f.blocks) (beside_lines all (has_beside f) f.beside) (inside base in_before (named all here) closed f1) (inside base blocks.0 (named all here) closed f2) _ blocks.2 beside.2),
    )

-- where frames stand, and behind the last one
abbrev Behind : List SceneFrame → Stage → Stage → Type 0
Behind [] st q = AtEnd st → AtEnd q
Behind (f ∷ frames) st q = AtEnd q

ended : (frames : List SceneFrame) (st q : Stage) → Behind frames st q → AtEnd st → AtEnd q
ended [] st q b e = b e
ended (f ∷ frames) st q b e = b

frames_again : (all : List Field) (bound : List Bool) (base : Reading) (closed frames : List SceneFrame) (st : Stage) → HasNames all → base.encoders ≤ 8 → length (bound_by_frames bound frames) ≤ length all → length closed + length frames ≤ 1024 → AreFrames (views_in base.version) base.encoders bound frames → can_stand st frame_word ≡ true
    → (q : Stage) × (can_stand q frame_word ≡ true) × Behind frames st q × (read_fields (moved base st (named all bound) closed) (frames_lines all (map has_beside frames) frames) ≡ Ok (moved base q (named all (bound_by_frames bound frames)) (closed ++ frames)))
frames_again all bound base closed [] st h few le lt k at = (st, at, (λ e. e), ap (λ fs. Ok (moved base st (named all bound) fs)) (sym (append-nil closed)))
frames_again all bound base closed (f ∷ frames) st h few le lt k at =
    let g = frames_grow (bound_by_frame bound f) frames in
    let one = frame_again all bound base closed f st h few (omega (arith, g, le)) (omega (arith, lt)) k.0 at in
    let rest = frames_again all (bound_by_frame bound f) base (closed ++ f ∷ []) frames one.0 h few le (omega (arith, lt, length-append closed (f ∷ []))) k.1 (frame_too one.0 one.1) in (
      rest.0,
      rest.1,
      ended frames one.0 rest.0 rest.2 one.1,
      then (frame_lines all (has_beside f) f) (frames_lines all (map has_beside frames) frames) (moved base st (named all bound) closed) (inside base one.0 (named all (bound_by_frame bound f)) closed f) _ one.2
          (rest.3 ∙ ap (λ fs. Ok (moved base rest.0 (named all (bound_by_frames bound (f ∷ frames))) fs)) (append_assoc closed (f ∷ []) frames)),
    )

-- ---- the head

-- a version that is read is no other version
no_other : (n : ℕ) → 1 ≤ n → n ≤ newest_version → is_other_version newest_version (codes "scene" ∷ decimal n ∷ []) ≡ false
no_other n a b =
    let small : n < 2 ^ 64 = omega (arith, b) in
    let own : natural (decimal n) ≡ Ok n = ap (λ t. cond t (Ok (value_onto 0 (decimal n))) (Err no_number)) (decimal-numeral n small) ∙ ap (λ k. Ok k) (decimal-value n small) in
    let low : leb 3 n ≡ false = grind (arith, nat_tests, b) in
    let out : in_range 3 255 n ≡ Err out_of_range = rw low refl in
    ap is_read (goes_on (natural (decimal n)) n (in_range 3 255) own ∙ out)

version_line : (n : ℕ) → 1 ≤ n → n ≤ newest_version → after_kept nothing_read (codes "scene" ∷ decimal n ∷ []) ≡ Ok (with_version n nothing_read)
unfolding after_word
version_line n a b =
    let small : n ≤ 255 = omega (arith, b) in
    kept_again nothing_read (codes "scene" ∷ decimal n ∷ []) scene_word ((refl, refl), (u8_spelled n small, tt)) (record { found = refl; not_other = no_other n a b; filled = λ h. h }) refl
    ∙ goes_on (number_in 1 newest_version (decimal n)) n _ (number_again 1 newest_version n a b (omega (arith, b)))

size_line : (r : Reading) (x y : ℕ) → r.stage ≡ at_size → 1 ≤ x → x ≤ 2048 → 1 ≤ y → y ≤ 2048 → after_kept r (codes "size" ∷ decimal x ∷ decimal y ∷ []) ≡ Ok (with_size x y r)
unfolding after_word
size_line r x y at a b c d =
    kept_again r (codes "size" ∷ decimal x ∷ decimal y ∷ []) size_word ((refl, refl), (decimal_spelled x (omega (arith, b)), (decimal_spelled y (omega (arith, d)), tt))) (record { found = refl; not_other = refl; filled = λ h. h }) (ap (λ st. can_stand st size_word) at)
    ∙ goes_on (number_in 1 2048 (decimal x)) x _ (number_again 1 2048 x a b (omega (arith, b)))
    ∙ goes_on (number_in 1 2048 (decimal y)) y _ (number_again 1 2048 y c d (omega (arith, d)))

encoders_line : (r : Reading) (n : ℕ) → r.stage ≡ at_encoders → 1 ≤ n → n ≤ 8 → after_kept r (codes "encoders" ∷ decimal n ∷ []) ≡ Ok (with_encoders n r)
unfolding after_word
encoders_line r n at a b =
    kept_again r (codes "encoders" ∷ decimal n ∷ []) encoders_word ((refl, refl), (decimal_spelled n (omega (arith, b)), tt)) (record { found = refl; not_other = refl; filled = λ h. h }) (ap (λ st. can_stand st encoders_word) at)
    ∙ goes_on (number_in 1 8 (decimal n)) n _ (number_again 1 8 n a b (omega (arith, b)))

room_line : (r : Reading) (room : Room) → r.stage ≡ at_room → IsRoom room → after_kept r (codes "room" ∷ decimal room.items ∷ decimal room.bytes ∷ decimal room.uniforms ∷ []) ≡ Ok (with_room room r)
unfolding after_word
room_line r room at h =
    let i = h.1 in
    let b = h.2 in
    let u = h.3 in
    let spelled : AllByRecursion IsSpelled (codes "room" ∷ decimal room.items ∷ decimal room.bytes ∷ decimal room.uniforms ∷ []) = ((refl, refl), (decimal_spelled room.items (omega (arith, i)), (decimal_spelled room.bytes (omega (arith, b)), (decimal_spelled room.uniforms (omega (arith, u)), tt)))) in
    let fs = codes "room" ∷ decimal room.items ∷ decimal room.bytes ∷ decimal room.uniforms ∷ [] in
    let form : room_form fs ≡ Ok room
    = goes_on (number_in 1 8191 (decimal room.items)) room.items _ (number_again 1 8191 room.items h.0 i (omega (arith, i)))
    ∙ goes_on (number_in 0 1048576 (decimal room.bytes)) room.bytes _ (number_again 0 1048576 room.bytes (omega arith) b (omega (arith, b)))
    ∙ goes_on (number_in 0 8191 (decimal room.uniforms)) room.uniforms _ (number_again 0 8191 room.uniforms (omega arith) u (omega (arith, u))) in
    kept_again r fs room_word spelled (record { found = refl; not_other = refl; filled = λ h. h }) (ap (λ st. can_stand st room_word) at) ∙ goes_on (room_form fs) room _ form

latency_line : (r : Reading) (n : ℕ) → r.stage ≡ at_latency → says_latency r.version ≡ true → 1 ≤ n → n ≤ greatest_latency → after_kept r (codes "latency" ∷ decimal n ∷ []) ≡ Ok (with_latency n r)
unfolding after_word
latency_line r n at says a b =
    let place : is_in_place r latency_word (codes "latency" ∷ decimal n ∷ []) ≡ true = rw (at, says) refl in
    kept_again r (codes "latency" ∷ decimal n ∷ []) latency_word ((refl, refl), (decimal_spelled n (omega (arith, b)), tt)) (record { found = refl; not_other = refl; filled = λ h. h }) place
    ∙ goes_on (number_in 1 greatest_latency (decimal n)) n _ (number_again 1 greatest_latency n a b (omega (arith, b)))

done_line : (base : Reading) (st : Stage) (names : List BoundName) (frames : List SceneFrame) → AtEnd st → after_kept (moved base st names frames) (codes "done" ∷ []) ≡ Ok (moved base at_end names frames)
unfolding after_word
done_line base st names frames at = kept_again (moved base st names frames) (codes "done" ∷ []) done_word ((refl, refl), tt) (record { found = refl; not_other = refl; filled = λ h. h }) at

-- what the head of a scene is read as, at a stage before the frames
abbrev head_of : Scene → ℕ → Stage → Reading
head_of s latency st = record { stage = st; version = s.version; width = s.width; height = s.height; encoders = s.encoders; room = s.room; latency = latency; names = []; frames = [] }

latency_part : (s : Scene) → IsReadable s → (t : Bool) → says_latency s.version ≡ t → (st : Stage) × (can_stand st frame_word ≡ true) × (read_fields (head_of s 1 at_latency) (latency_lines t s.latency) ≡ Ok (head_of s s.latency st))
latency_part s h false says = (at_latency, refl, ap (λ n. Ok (head_of s n at_latency)) (sym (h.one_out (is_one says))))
  where
    is_one : not (s.version == 1) ≡ false → s.version ≡ 1
    is_one e = by (s.version == 1) refl e
      where
        by : (t : Bool) → (s.version == 1) ≡ t → not t ≡ false → s.version ≡ 1
        by true k e = eqb-true _ _ k
        by false k e = absurd (cc e)
latency_part s h true says = (at_first_frame, refl, goes_on (after_kept (head_of s 1 at_latency) (codes "latency" ∷ decimal s.latency ∷ [])) (head_of s s.latency at_first_frame) _ (latency_line (head_of s 1 at_latency) s.latency refl says h.latency.0 h.latency.1))

head_again : (s : Scene) → IsReadable s → (st : Stage) × (can_stand st frame_word ≡ true) × (read_fields nothing_read (head_lines true (says_latency s.version) s) ≡ Ok (head_of s s.latency st))
head_again s h =
    let l = latency_part s h (says_latency s.version) refl in
    let r1 = with_version s.version nothing_read in
    let r2 = with_size s.width s.height r1 in
    let r3 = with_encoders s.encoders r2 in (
      l.0,
      l.1,
      goes_on (after_kept nothing_read (codes "scene" ∷ decimal s.version ∷ [])) r1 _ (version_line s.version h.known_version.0 h.known_version.1)
          ∙ goes_on (after_kept r1 (codes "size" ∷ decimal s.width ∷ decimal s.height ∷ [])) r2 _ (size_line r1 s.width s.height refl h.sides.wide h.sides.narrow h.sides.high h.sides.low)
          ∙ goes_on (after_kept r2 (codes "encoders" ∷ decimal s.encoders ∷ [])) r3 _ (encoders_line r2 s.encoders refl h.encoders.0 h.encoders.1)
          ∙ goes_on (after_kept r3 (codes "room" ∷ decimal s.room.items ∷ decimal s.room.bytes ∷ decimal s.room.uniforms ∷ [])) (head_of s 1 at_latency) _ (room_line r3 s.room refl h.room)
          ∙ l.2,
    )

-- ---- the whole

named_texts : (all : List Field) (bound : List Bool) → length bound ≡ length all → texts (named all bound) ≡ all
named_texts [] bound e = refl
named_texts (f ∷ all) [] e = absurd (omega (arith, e))
named_texts (f ∷ all) (b ∷ bound) e = ap (λ fs. f ∷ fs) (named_texts all bound (omega (arith, e)))

some_frames : (frames : List SceneFrame) (st q : Stage) → 1 ≤ length frames → Behind frames st q → AtEnd q
some_frames [] st q some b = absurd (omega (arith, some))
some_frames (f ∷ frames) st q some b = b

-- the lines are read to the scene
pub lines_again : (s : Scene) → IsReadable s → (r : Reading) × (read_fields nothing_read (spelled_lines true (says_latency s.version) (map has_beside s.frames) s) ≡ Ok r) × (r.stage ≡ at_end) × (scene_read r ≡ s)
lines_again s h =
    let names : HasNames s.names = record { names = h.names; distinct = h.distinct } in
    let head = head_again s h in
    let base = head_of s s.latency head.0 in
    let bound = bound_by_frames [] s.frames in
    let enough : length bound ≤ length s.names = (let e = h.all_bound in omega (arith, e)) in
    let frames = frames_again s.names [] base [] s.frames head.0 names h.encoders.1 enough (let c = h.frame_count.1 in omega (arith, c)) h.frames head.1 in
    let last = some_frames s.frames head.0 frames.0 h.frame_count.0 frames.2 in
    let r = moved base at_end (named s.names bound) s.frames in
    let first : moved base head.0 (named s.names []) [] ≡ base = (λ i. moved base head.0 (no_names s.names i) []) in (
      r,
      then (head_lines true (says_latency s.version) s) (frames_lines s.names (map has_beside s.frames) s.frames ++ (codes "done" ∷ []) ∷ []) nothing_read base _ head.2
          (then (frames_lines s.names (map has_beside s.frames) s.frames) ((codes "done" ∷ []) ∷ []) base (moved base frames.0 (named s.names bound) s.frames) _
          (ap (λ b. read_fields b (frames_lines s.names (map has_beside s.frames) s.frames)) (sym first) ∙ frames.3)
          (goes_on (after_kept (moved base frames.0 (named s.names bound) s.frames) (codes "done" ∷ [])) r _ (done_line base frames.0 (named s.names bound) s.frames last))),
      refl,
      ap (λ ts. record s { names = ts }) (named_texts s.names bound h.all_bound),
    )
  where
    no_names : (all : List Field) → named all [] ≡ []
    no_names [] = refl
    no_names (f ∷ all) = refl
