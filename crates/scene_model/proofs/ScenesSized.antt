-- Every scene that is read has sides of 1 to 2,048 pixels, at most 1,024 frames and a version of its language, in whatever language it is read.
use Rattle.std.proofs.Common.{◌≡◌, ℕ, ◌+◌, ◌≤◌, ◌<◌, nat_lt, leb, leb-true, ltb-true, Bool, true, false, not, ◌&&◌, cond, List, [], ◌∷◌, length, ◌++◌, length-append, Option, Some, None, Result, Ok, Err, refl, ap, subst, sym, ◌∙◌, suc, arith}
use Rattle.std.specs.List.{list_all}
use Rattle.scene_model.specs.Scene.{SceneFrame, Scene, HasSides, greatest_latency, views_in}
use Rattle.scene_model.specs.Field.{Read, ◌>>=◌, bad_byte, ends_early, misplaced_word, unknown_version, out_of_range, natural, in_range, number_in, u8_number, split_at, find_word}
use Rattle.scene_model.specs.Grammar.{Field, field, Language, Word, scene_word, size_word, encoders_word, room_word, latency_word, frame_word, encoder_word, beside_word, done_word, journal_word, layout_word, vertex_buffer_word, index_buffer_word, texture_word, frame_buffer_word, program_word, uniform_word, update_word, texel_update_word, destroy_word, view_word, order_word, state_word, stencil_word, scissor_word, transform_word, vertices_word, indices_word, transient_vertices_word, transient_indices_word, bind_word, set_word, submit_word, touch_word, blit_word, Stage, at_front, at_size, at_encoders, at_room, at_latency, at_first_frame, in_before, in_block, in_beside, at_end, is_front_word, is_size_word, can_stand, Reading, nothing_read, on_last, empty_frame, at_stage, with_version, with_size, with_encoders, with_room, with_latency, with_new_frame, with_block, on_last_frame, with_names, with_resource_line, with_encoder_line, last_encoder, blocks_of_last, unless, has_count, is_text_byte, is_other_version, is_next_of, says_latency, is_in_place, are_filled_before, room_form, resource_form, encoder_form, after_resource, after_encoder_line, after_word, after_fields, after_line, is_skipped, is_at_end, scene_read, Fault, at_last_piece, line_read, read_pieces, scene_of}

-- ---- tests that hold

both_of : (a b : Bool) → (a && b) ≡ true → (a ≡ true) × (b ≡ true)
both_of true b e = (refl, e)
both_of false b e = absurd (cc e)

unless_ok : (b : Bool) (cause : ℕ) (y : Bool) → unless b cause ≡ Ok y → b ≡ true
unless_ok true cause y e = refl
unless_ok false cause y e = absurd (cc e)

true_is_false : true ≡ false → ⊥
true_is_false e = absurd (cc e)

-- a number that is read is in its range
in_its_range : (low high n m : ℕ) → in_range low high n ≡ Ok m → (low ≤ m) × (m ≤ high)
in_its_range low high n m e = by (leb low n && leb n high) refl e
  where
    by : (b : Bool) → (leb low n && leb n high) ≡ b → cond {A = Read ℕ} b (Ok n) (Err out_of_range) ≡ Ok m → (low ≤ m) × (m ≤ high)
    by true h e =
        let same : n ≡ m = cc e in
        let t = both_of (leb low n) (leb n high) h in
        (omega (arith, leb-true low n t.0, same), omega (arith, leb-true n high t.1, same))
    by false h e = absurd (cc e)

number_bound : (low high : ℕ) (f : Field) (n : ℕ) → number_in low high f ≡ Ok n → (low ≤ n) × (n ≤ high)
number_bound low high f n e = by (natural f) e
  where
    by : (m : Read ℕ) → (m >>= in_range low high) ≡ Ok n → (low ≤ n) × (n ≤ high)
    by (Ok k) e = in_its_range low high k n e
    by (Err cause) e = absurd (cc e)

-- ---- the sides of a reading

abbrev AreSides : ℕ → ℕ → Type 0
AreSides width height = (1 ≤ width) × (1 ≤ height) × (width ≤ 2048) × (height ≤ 2048)

-- what is known of the sides at a stage: nothing in front of the `size` line, and their bounds behind it
abbrev SidesAt : Stage → ℕ → ℕ → Type 0
SidesAt at_front width height = Unit {0}
SidesAt at_size width height = Unit {0}
SidesAt at_encoders width height = AreSides width height
SidesAt at_room width height = AreSides width height
SidesAt at_latency width height = AreSides width height
SidesAt at_first_frame width height = AreSides width height
SidesAt in_before width height = AreSides width height
SidesAt in_block width height = AreSides width height
SidesAt in_beside width height = AreSides width height
SidesAt at_end width height = AreSides width height

abbrev IsSized : Reading → Type 0
IsSized r = SidesAt r.stage r.width r.height

-- what succeeds is a sized reading
abbrev ReadsSized : Read Reading → Type 0
ReadsSized m = (q : Reading) → m ≡ Ok q → IsSized q

here : (r : Reading) → IsSized r → ReadsSized (Ok r)
here r h q e = let same : r ≡ q = cc e in subst IsSized same h

behind : {A : Type 0} (m : Read A) (f : A → Read Reading) → ((x : A) → m ≡ Ok x → ReadsSized (f x)) → ReadsSized (m >>= f)
behind (Ok x) f h = h x refl
behind (Err cause) f h = λ q e. absurd (cc e)

-- where a word other than `scene` and `size` can stand, the sides are known
known_where : (st : Stage) (w : Word) (width height : ℕ) → is_front_word w ≡ false → is_size_word w ≡ false → can_stand st w ≡ true → SidesAt st width height → AreSides width height
known_where at_front w width height front size c h = absurd (true_is_false (sym c ∙ front))
known_where at_size w width height front size c h = absurd (true_is_false (sym c ∙ size))
known_where at_encoders w width height front size c h = h
known_where at_room w width height front size c h = h
known_where at_latency w width height front size c h = h
known_where at_first_frame w width height front size c h = h
known_where in_before w width height front size c h = h
known_where in_block w width height front size c h = h
known_where in_beside w width height front size c h = h
known_where at_end w width height front size c h = h

known_at_end : (st : Stage) (width height : ℕ) → is_at_end st ≡ true → SidesAt st width height → AreSides width height
known_at_end at_end width height e h = h
known_at_end at_front width height e h = absurd (cc e)
known_at_end at_size width height e h = absurd (cc e)
known_at_end at_encoders width height e h = absurd (cc e)
known_at_end at_room width height e h = absurd (cc e)
known_at_end at_latency width height e h = absurd (cc e)
known_at_end at_first_frame width height e h = absurd (cc e)
known_at_end in_before width height e h = absurd (cc e)
known_at_end in_block width height e h = absurd (cc e)
known_at_end in_beside width height e h = absurd (cc e)

-- ---- the words of the order of lines

scene_sized : (known : Language) (r : Reading) (fs : List Field) → ReadsSized (after_word known r fs scene_word)
unfolding after_word
scene_sized known r fs = behind (has_count 2 fs) _ (λ b is. behind (number_in 1 known.newest (field fs 1)) _ (λ n k. here (with_version n r) tt))

size_sized : (known : Language) (r : Reading) (fs : List Field) → ReadsSized (after_word known r fs size_word)
unfolding after_word
size_sized known r fs =
    behind (has_count 3 fs) _ (λ b is.
    behind (number_in 1 2048 (field fs 1)) _ (λ w wide.
    behind (number_in 1 2048 (field fs 2)) _ (λ h high.
    let x = number_bound 1 2048 (field fs 1) w wide in
    let y = number_bound 1 2048 (field fs 2) h high in
    here (with_size w h r) (x.0, y.0, x.1, y.1))))

encoders_sized : (known : Language) (r : Reading) (fs : List Field) → AreSides r.width r.height → ReadsSized (after_word known r fs encoders_word)
unfolding after_word
encoders_sized known r fs h = behind (has_count 2 fs) _ (λ b is. behind (number_in 1 8 (field fs 1)) _ (λ n k. here (with_encoders n r) h))

room_sized : (known : Language) (r : Reading) (fs : List Field) → AreSides r.width r.height → ReadsSized (after_word known r fs room_word)
unfolding after_word
room_sized known r fs h = behind (room_form fs) _ (λ room k. here (with_room room r) h)

latency_sized : (known : Language) (r : Reading) (fs : List Field) → AreSides r.width r.height → ReadsSized (after_word known r fs latency_word)
unfolding after_word
latency_sized known r fs h = behind (has_count 2 fs) _ (λ b is. behind (number_in 1 greatest_latency (field fs 1)) _ (λ n k. here (with_latency n r) h))

frame_sized : (known : Language) (r : Reading) (fs : List Field) → AreSides r.width r.height → ReadsSized (after_word known r fs frame_word)
unfolding after_word
frame_sized known r fs h = behind (has_count 1 fs) _ (λ b is. behind (unless (nat_lt (length r.frames) 1024) out_of_range) _ (λ c k. here (with_new_frame r) h))

encoder_sized : (known : Language) (r : Reading) (fs : List Field) → AreSides r.width r.height → ReadsSized (after_word known r fs encoder_word)
unfolding after_word
encoder_sized known r fs h = behind (has_count 2 fs) _ (λ b is. behind (u8_number (field fs 1)) _ (λ n k. here (at_stage in_block (on_last_frame (with_block n) r)) h))

beside_sized : (known : Language) (r : Reading) (fs : List Field) → AreSides r.width r.height → ReadsSized (after_word known r fs beside_word)
unfolding after_word
beside_sized known r fs h = behind (has_count 1 fs) _ (λ b is. here (at_stage in_beside r) h)

done_sized : (known : Language) (r : Reading) (fs : List Field) → AreSides r.width r.height → ReadsSized (after_word known r fs done_word)
unfolding after_word
done_sized known r fs h = behind (has_count 1 fs) _ (λ b is. here (at_stage at_end r) h)

-- ---- the words of resource, view and encoder lines: stage and sides stay

resource_sized : (known : Language) (r : Reading) (fs : List Field) (w : Word) → IsSized r → ReadsSized (after_resource known r fs w)
unfolding after_resource
resource_sized known r fs w h = behind (resource_form known (views_in r.version) r.names fs w) _ (λ l k. here (with_names l.1 (with_resource_line l.0 r)) h)

encoder_line_sized : (r : Reading) (fs : List Field) (w : Word) → IsSized r → ReadsSized (after_encoder_line r fs w)
unfolding after_encoder_line
encoder_line_sized r fs w h = behind (encoder_form r.names fs w) _ (λ l k. here (on_last_frame (with_encoder_line l) r) h)

-- ---- any word, any line

word_sized : (known : Language) (r : Reading) (fs : List Field) (w : Word) → is_in_place r w fs ≡ true → IsSized r → ReadsSized (after_word known r fs w)
unfolding after_word
word_sized known r fs scene_word place h = scene_sized known r fs
word_sized known r fs size_word place h = size_sized known r fs
word_sized known r fs encoders_word place h = encoders_sized known r fs (known_where r.stage encoders_word r.width r.height refl refl place h)
word_sized known r fs room_word place h = room_sized known r fs (known_where r.stage room_word r.width r.height refl refl place h)
word_sized known r fs latency_word place h = latency_sized known r fs (known_where r.stage latency_word r.width r.height refl refl (both_of (can_stand r.stage latency_word) (says_latency r.version) place).0 h)
word_sized known r fs frame_word place h = frame_sized known r fs (known_where r.stage frame_word r.width r.height refl refl place h)
word_sized known r fs encoder_word place h = encoder_sized known r fs (known_where r.stage encoder_word r.width r.height refl refl (both_of (can_stand r.stage encoder_word) (is_next_of r.encoders (last_encoder (blocks_of_last r.frames)) (field fs 1)) place).0 h)
word_sized known r fs beside_word place h = beside_sized known r fs (known_where r.stage beside_word r.width r.height refl refl place h)
word_sized known r fs done_word place h = done_sized known r fs (known_where r.stage done_word r.width r.height refl refl place h)
word_sized known r fs journal_word place h = λ q e. absurd (cc e)
word_sized known r fs layout_word place h = resource_sized known r fs layout_word h
word_sized known r fs vertex_buffer_word place h = resource_sized known r fs vertex_buffer_word h
word_sized known r fs index_buffer_word place h = resource_sized known r fs index_buffer_word h
word_sized known r fs texture_word place h = resource_sized known r fs texture_word h
word_sized known r fs frame_buffer_word place h = resource_sized known r fs frame_buffer_word h
word_sized known r fs program_word place h = resource_sized known r fs program_word h
word_sized known r fs uniform_word place h = resource_sized known r fs uniform_word h
word_sized known r fs update_word place h = resource_sized known r fs update_word h
word_sized known r fs texel_update_word place h = resource_sized known r fs texel_update_word h
word_sized known r fs destroy_word place h = resource_sized known r fs destroy_word h
word_sized known r fs view_word place h = resource_sized known r fs view_word h
word_sized known r fs order_word place h = resource_sized known r fs order_word h
word_sized known r fs state_word place h = encoder_line_sized r fs state_word h
word_sized known r fs stencil_word place h = encoder_line_sized r fs stencil_word h
word_sized known r fs scissor_word place h = encoder_line_sized r fs scissor_word h
word_sized known r fs transform_word place h = encoder_line_sized r fs transform_word h
word_sized known r fs vertices_word place h = encoder_line_sized r fs vertices_word h
word_sized known r fs indices_word place h = encoder_line_sized r fs indices_word h
word_sized known r fs transient_vertices_word place h = encoder_line_sized r fs transient_vertices_word h
word_sized known r fs transient_indices_word place h = encoder_line_sized r fs transient_indices_word h
word_sized known r fs bind_word place h = encoder_line_sized r fs bind_word h
word_sized known r fs set_word place h = encoder_line_sized r fs set_word h
word_sized known r fs submit_word place h = encoder_line_sized r fs submit_word h
word_sized known r fs touch_word place h = encoder_line_sized r fs touch_word h
word_sized known r fs blit_word place h = encoder_line_sized r fs blit_word h

fields_sized : (known : Language) (r : Reading) (fs : List Field) (w : Option Word) → IsSized r → ReadsSized (after_fields known r fs w)
fields_sized known r fs None h = λ q e. absurd (cc e)
fields_sized known r fs (Some w) h =
    behind (unless (not (is_other_version known.newest fs)) unknown_version) _ (λ a version.
    behind (unless (is_in_place r w fs) misplaced_word) _ (λ b place.
    behind (are_filled_before w fs) _ (λ c filled.
    word_sized known r fs w (unless_ok (is_in_place r w fs) misplaced_word b place) h)))

line_sized : (known : Language) (r : Reading) (line : List ℕ) → IsSized r → ReadsSized (line_read known r line)
line_sized known r line h = by (is_skipped line)
  where
    by : (b : Bool) → ReadsSized (cond b (Ok r) (after_line known r line))
    by true = here r h
    by false = behind (unless (list_all is_text_byte line) bad_byte) _ (λ b k. fields_sized known r (split_at 32 line) (find_word known.words (field (split_at 32 line) 0)) h)

-- ---- whole texts

scene_sides : (r : Reading) (s : Scene) → AreSides r.width r.height → scene_read r ≡ s → HasSides s
scene_sides r s h made = subst HasSides made (record { wide = h.0; high = h.1; narrow = h.2; low = h.3 })

last_sized : (n : ℕ) (r : Reading) (p : List ℕ) (s : Scene) → IsSized r → at_last_piece n r p ≡ Ok s → HasSides s
last_sized n r [] s h e = by (is_at_end r.stage) refl e
  where
    by : (b : Bool) → is_at_end r.stage ≡ b → cond {A = Result Scene Fault} b (Ok (scene_read r)) (Err (record { line = n; cause = ends_early })) ≡ Ok s → HasSides s
    by true end e = let made : scene_read r ≡ s = cc e in scene_sides r s (known_at_end r.stage r.width r.height end h) made
    by false end e = absurd (cc e)
last_sized n r (b ∷ bs) s h e = absurd (cc e)

pieces_sized : (known : Language) (pieces : List (List ℕ)) (n : ℕ) (m : Read Reading) (s : Scene) → ReadsSized m → read_pieces known n m pieces ≡ Ok s → HasSides s
pieces_sized known pieces n (Err cause) s h e = absurd (cc e)
pieces_sized known [] n (Ok r) s h e = absurd (cc e)
pieces_sized known (p ∷ []) n (Ok r) s h e = last_sized n r p s (h r refl) e
pieces_sized known (p ∷ p2 ∷ rest) n (Ok r) s h e = pieces_sized known (p2 ∷ rest) (n + 1) (line_read known r p) s (line_sized known r p (h r refl)) e

-- a scene that some bytes are has sides within their bounds
pub sized : (l : Language) (bytes : List ℕ) (s : Scene) → scene_of l bytes ≡ Ok s → HasSides s
sized l bytes s e = pieces_sized l (split_at 10 bytes) 1 (Ok nothing_read) s (here nothing_read tt) e

-- ---- the number of frames, and the version

-- a change of the last item keeps the number of items
same_length : {A : Type 0} (f : A → A) (xs : List A) → length (on_last f xs) ≡ length xs
same_length f [] = refl
same_length f (x ∷ []) = refl
same_length f (x ∷ y ∷ rest) = ap suc (same_length f (y ∷ rest))

-- few frames, a version of the language, and one frame out where the language has the first version alone
abbrev IsFew : Language → Reading → Type 0
IsFew known r =
    (length r.frames ≤ 1024) × (1 ≤ known.newest → (1 ≤ r.version) × (r.version ≤ known.newest))
    × (known.newest ≡ 1 → (r.version ≡ 1) × (r.latency ≡ 1))

-- what succeeds is such a reading
abbrev ReadsFew : Language → Read Reading → Type 0
ReadsFew known m = (q : Reading) → m ≡ Ok q → IsFew known q

few_here : (known : Language) (r : Reading) → IsFew known r → ReadsFew known (Ok r)
few_here known r h q e = let same : r ≡ q = cc e in subst (IsFew known) same h

few_behind : {A : Type 0} (known : Language) (m : Read A) (f : A → Read Reading) → ((x : A) → m ≡ Ok x → ReadsFew known (f x)) → ReadsFew known (m >>= f)
few_behind known (Ok x) f h = h x refl
few_behind known (Err cause) f h = λ q e. absurd (cc e)

-- a changed last frame
changed_few : (f : SceneFrame → SceneFrame) (fs : List SceneFrame) → length fs ≤ 1024 → length (on_last f fs) ≤ 1024
changed_few f fs h = omega (arith, same_length f fs, h)

-- one frame more, where there were fewer than 1,024
more_few : (fs : List SceneFrame) → length fs < 1024 → length (fs ++ empty_frame ∷ []) ≤ 1024
more_few fs h = omega (arith, length-append fs (empty_frame ∷ []), h)

frame_few : (known : Language) (r : Reading) (fs : List Field) → IsFew known r → ReadsFew known (after_word known r fs frame_word)
unfolding after_word
frame_few known r fs h =
    few_behind known (has_count 1 fs) _ (λ b is.
    few_behind known (unless (nat_lt (length r.frames) 1024) out_of_range) _ (λ c k.
    few_here known (with_new_frame r) (more_few r.frames (ltb-true (length r.frames) 1024 (unless_ok (nat_lt (length r.frames) 1024) out_of_range c k)), h.1, h.2)))

resource_few : (known : Language) (r : Reading) (fs : List Field) (w : Word) → IsFew known r → ReadsFew known (after_resource known r fs w)
unfolding after_resource
resource_few known r fs w h = few_behind known (resource_form known (views_in r.version) r.names fs w) _ (λ l k. few_here known (with_names l.1 (with_resource_line l.0 r)) (changed_few _ r.frames h.0, h.1, h.2))

encoder_line_few : (known : Language) (r : Reading) (fs : List Field) (w : Word) → IsFew known r → ReadsFew known (after_encoder_line r fs w)
unfolding after_encoder_line
encoder_line_few known r fs w h = few_behind known (encoder_form r.names fs w) _ (λ l k. few_here known (on_last_frame (with_encoder_line l) r) (changed_few _ r.frames h.0, h.1, h.2))

-- between 1 and 1 is 1
first_version : (newest n : ℕ) → (1 ≤ n) × (n ≤ newest) → newest ≡ 1 → n ≡ 1
first_version newest n h one = omega (arith, h.0, h.1, one)

-- scenes of the first version do not say their latency
no_latency : (version : ℕ) → version ≡ 1 → says_latency version ≡ true → ⊥
no_latency version one says = true_is_false (sym says ∙ ap says_latency one)

word_few : (known : Language) (r : Reading) (fs : List Field) (w : Word) → is_in_place r w fs ≡ true → IsFew known r → ReadsFew known (after_word known r fs w)
unfolding after_word
word_few known r fs scene_word place h = few_behind known (has_count 2 fs) _ (λ b is. few_behind known (number_in 1 known.newest (field fs 1)) _ (λ n k. few_here known (with_version n r) (h.0, (λ some. number_bound 1 known.newest (field fs 1) n k), (λ one. (first_version known.newest n (number_bound 1 known.newest (field fs 1) n k) one, (h.2 one).1)))))
word_few known r fs size_word place h = few_behind known (has_count 3 fs) _ (λ b is. few_behind known (number_in 1 2048 (field fs 1)) _ (λ x wide. few_behind known (number_in 1 2048 (field fs 2)) _ (λ y high. few_here known (with_size x y r) h)))
word_few known r fs encoders_word place h = few_behind known (has_count 2 fs) _ (λ b is. few_behind known (number_in 1 8 (field fs 1)) _ (λ n k. few_here known (with_encoders n r) h))
word_few known r fs room_word place h = few_behind known (room_form fs) _ (λ room k. few_here known (with_room room r) h)
word_few known r fs latency_word place h = few_behind known (has_count 2 fs) _ (λ b is. few_behind known (number_in 1 greatest_latency (field fs 1)) _ (λ n k. few_here known (with_latency n r) (h.0, h.1, (λ one. absurd (no_latency r.version (h.2 one).0 (both_of (can_stand r.stage latency_word) (says_latency r.version) place).1)))))
word_few known r fs frame_word place h = frame_few known r fs h
word_few known r fs encoder_word place h = few_behind known (has_count 2 fs) _ (λ b is. few_behind known (u8_number (field fs 1)) _ (λ n k. few_here known (at_stage in_block (on_last_frame (with_block n) r)) (changed_few _ r.frames h.0, h.1, h.2)))
word_few known r fs beside_word place h = few_behind known (has_count 1 fs) _ (λ b is. few_here known (at_stage in_beside r) h)
word_few known r fs done_word place h = few_behind known (has_count 1 fs) _ (λ b is. few_here known (at_stage at_end r) h)
word_few known r fs journal_word place h = λ q e. absurd (cc e)
word_few known r fs layout_word place h = resource_few known r fs layout_word h
word_few known r fs vertex_buffer_word place h = resource_few known r fs vertex_buffer_word h
word_few known r fs index_buffer_word place h = resource_few known r fs index_buffer_word h
word_few known r fs texture_word place h = resource_few known r fs texture_word h
word_few known r fs frame_buffer_word place h = resource_few known r fs frame_buffer_word h
word_few known r fs program_word place h = resource_few known r fs program_word h
word_few known r fs uniform_word place h = resource_few known r fs uniform_word h
word_few known r fs update_word place h = resource_few known r fs update_word h
word_few known r fs texel_update_word place h = resource_few known r fs texel_update_word h
word_few known r fs destroy_word place h = resource_few known r fs destroy_word h
word_few known r fs view_word place h = resource_few known r fs view_word h
word_few known r fs order_word place h = resource_few known r fs order_word h
word_few known r fs state_word place h = encoder_line_few known r fs state_word h
word_few known r fs stencil_word place h = encoder_line_few known r fs stencil_word h
word_few known r fs scissor_word place h = encoder_line_few known r fs scissor_word h
word_few known r fs transform_word place h = encoder_line_few known r fs transform_word h
word_few known r fs vertices_word place h = encoder_line_few known r fs vertices_word h
word_few known r fs indices_word place h = encoder_line_few known r fs indices_word h
word_few known r fs transient_vertices_word place h = encoder_line_few known r fs transient_vertices_word h
word_few known r fs transient_indices_word place h = encoder_line_few known r fs transient_indices_word h
word_few known r fs bind_word place h = encoder_line_few known r fs bind_word h
word_few known r fs set_word place h = encoder_line_few known r fs set_word h
word_few known r fs submit_word place h = encoder_line_few known r fs submit_word h
word_few known r fs touch_word place h = encoder_line_few known r fs touch_word h
word_few known r fs blit_word place h = encoder_line_few known r fs blit_word h

fields_few : (known : Language) (r : Reading) (fs : List Field) (w : Option Word) → IsFew known r → ReadsFew known (after_fields known r fs w)
fields_few known r fs None h = λ q e. absurd (cc e)
fields_few known r fs (Some w) h =
    few_behind known (unless (not (is_other_version known.newest fs)) unknown_version) _ (λ a version.
    few_behind known (unless (is_in_place r w fs) misplaced_word) _ (λ b place.
    few_behind known (are_filled_before w fs) _ (λ c filled.
    word_few known r fs w (unless_ok (is_in_place r w fs) misplaced_word b place) h)))

line_few : (known : Language) (r : Reading) (line : List ℕ) → IsFew known r → ReadsFew known (line_read known r line)
line_few known r line h = by (is_skipped line)
  where
    by : (b : Bool) → ReadsFew known (cond b (Ok r) (after_line known r line))
    by true = few_here known r h
    by false = few_behind known (unless (list_all is_text_byte line) bad_byte) _ (λ b k. fields_few known r (split_at 32 line) (find_word known.words (field (split_at 32 line) 0)) h)

-- few frames, a version of the language, and one frame out where the language has the first version alone
abbrev IsFewScene : Language → Scene → Type 0
IsFewScene known s =
    (length s.frames ≤ 1024) × (1 ≤ known.newest → (1 ≤ s.version) × (s.version ≤ known.newest))
    × (known.newest ≡ 1 → (s.version ≡ 1) × (s.latency ≡ 1))

last_few : (known : Language) (n : ℕ) (r : Reading) (p : List ℕ) (s : Scene) → IsFew known r → at_last_piece n r p ≡ Ok s → IsFewScene known s
last_few known n r [] s h e = by (is_at_end r.stage) e
  where
    by : (b : Bool) → cond {A = Result Scene Fault} b (Ok (scene_read r)) (Err (record { line = n; cause = ends_early })) ≡ Ok s → IsFewScene known s
    by true e = let made : scene_read r ≡ s = cc e in subst (IsFewScene known) made h
    by false e = absurd (cc e)
last_few known n r (b ∷ bs) s h e = absurd (cc e)

pieces_few : (known : Language) (pieces : List (List ℕ)) (n : ℕ) (m : Read Reading) (s : Scene) → ReadsFew known m → read_pieces known n m pieces ≡ Ok s → IsFewScene known s
pieces_few known pieces n (Err cause) s h e = absurd (cc e)
pieces_few known [] n (Ok r) s h e = absurd (cc e)
pieces_few known (p ∷ []) n (Ok r) s h e = last_few known n r p s (h r refl) e
pieces_few known (p ∷ p2 ∷ rest) n (Ok r) s h e = pieces_few known (p2 ∷ rest) (n + 1) (line_read known r p) s (line_few known r p (h r refl)) e

few_scene : (l : Language) (bytes : List ℕ) (s : Scene) → scene_of l bytes ≡ Ok s → IsFewScene l s
few_scene l bytes s e = pieces_few l (split_at 10 bytes) 1 (Ok nothing_read) s (few_here l nothing_read (omega arith, (λ some. (omega arith, some)), (λ one. (refl, refl)))) e

-- a scene that some bytes are has at most 1,024 frames
pub few-frames : (l : Language) (bytes : List ℕ) (s : Scene) → scene_of l bytes ≡ Ok s → length s.frames ≤ 1024
few-frames l bytes s e = (few_scene l bytes s e).0

-- a scene that some bytes are has a version of the language
pub read-version : (l : Language) (bytes : List ℕ) (s : Scene) → 1 ≤ l.newest → scene_of l bytes ≡ Ok s → (1 ≤ s.version) × (s.version ≤ l.newest)
read-version l bytes s some e = (few_scene l bytes s e).1 some

-- in a language of the first version alone it is the first, and one frame may be out
pub first-version : (l : Language) (bytes : List ℕ) (s : Scene) → l.newest ≡ 1 → scene_of l bytes ≡ Ok s → (s.version ≡ 1) × (s.latency ≡ 1)
first-version l bytes s one e = (few_scene l bytes s e).2 one
