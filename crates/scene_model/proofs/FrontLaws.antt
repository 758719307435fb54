-- A scene's text is a front of each text that begins with it.
use Rattle.std.proofs.Common.{◌≡◌, ℕ, ◌+◌, Bool, true, false, not, ◌&&◌, ◌==◌, cond, List, [], ◌∷◌, ◌++◌, length, length-append, Option, Some, None, Result, Ok, Err, refl, ap, sym, ◌∙◌, arith, append_assoc}
use Rattle.std.specs.Prelude.{codes}
use Rattle.std.specs.List.{list_all}
use Rattle.scene_model.specs.Scene.{Scene}
use Rattle.scene_model.specs.Field.{Read, ◌>>=◌, bad_byte, ends_early, misplaced_word, unknown_version, split_at, with_head, find_word}
use Rattle.scene_model.specs.Grammar.{Field, field, Language, Word, scene_word, size_word, encoders_word, room_word, latency_word, frame_word, encoder_word, beside_word, done_word, journal_word, layout_word, vertex_buffer_word, index_buffer_word, texture_word, frame_buffer_word, program_word, uniform_word, update_word, texel_update_word, destroy_word, view_word, order_word, state_word, stencil_word, scissor_word, transform_word, vertices_word, indices_word, transient_vertices_word, transient_indices_word, bind_word, set_word, submit_word, touch_word, blit_word, Stage, at_front, at_size, at_encoders, at_room, at_latency, at_first_frame, in_before, in_block, in_beside, at_end, can_stand, is_next_of, says_latency, Reading, nothing_read, unless, is_text_byte, is_other_version, is_in_place, is_in_place_at, last_encoder, blocks_of_last, after_fields, after_line, is_skipped, is_at_end, scene_read, Fault, at_last_piece, line_read, read_pieces, with_place, front_pieces}
use Rattle.scene_model.specs.TextLaws.{FrontLaw}
use Rattle.scene_model.proofs.SplitLaws.{split-found, split-has}

-- ---- nothing stands behind the end

both_of : (a b : Bool) → (a && b) ≡ true → (a ≡ true) × (b ≡ true)
both_of true b e = (refl, e)
both_of false b e = absurd (cc e)

-- a word that is in its place can stand at the stage
stands : (st : Stage) (version encoders : ℕ) (last : Option ℕ) (w : Word) (fs : List Field) → is_in_place_at st version encoders last w fs ≡ true → can_stand st w ≡ true
stands st version encoders last scene_word fs h = h
stands st version encoders last size_word fs h = h
stands st version encoders last encoders_word fs h = h
stands st version encoders last room_word fs h = h
stands st version encoders last latency_word fs h = (both_of (can_stand st latency_word) (says_latency version) h).0
stands st version encoders last frame_word fs h = h
stands st version encoders last encoder_word fs h = (both_of (can_stand st encoder_word) (is_next_of encoders last (field fs 1)) h).0
stands st version encoders last beside_word fs h = h
stands st version encoders last done_word fs h = h
stands st version encoders last journal_word fs h = h
stands st version encoders last layout_word fs h = h
stands st version encoders last vertex_buffer_word fs h = h
stands st version encoders last index_buffer_word fs h = h
stands st version encoders last texture_word fs h = h
stands st version encoders last frame_buffer_word fs h = h
stands st version encoders last program_word fs h = h
stands st version encoders last uniform_word fs h = h
stands st version encoders last update_word fs h = h
stands st version encoders last texel_update_word fs h = h
stands st version encoders last destroy_word fs h = h
stands st version encoders last view_word fs h = h
stands st version encoders last order_word fs h = h
stands st version encoders last state_word fs h = h
stands st version encoders last stencil_word fs h = h
stands st version encoders last scissor_word fs h = h
stands st version encoders last transform_word fs h = h
stands st version encoders last vertices_word fs h = h
stands st version encoders last indices_word fs h = h
stands st version encoders last transient_vertices_word fs h = h
stands st version encoders last transient_indices_word fs h = h
stands st version encoders last bind_word fs h = h
stands st version encoders last set_word fs h = h
stands st version encoders last submit_word fs h = h
stands st version encoders last touch_word fs h = h
stands st version encoders last blit_word fs h = h

none_at_end : (st : Stage) (w : Word) → is_at_end st ≡ true → can_stand st w ≡ true → ⊥
none_at_end at_end w e c = cc c
none_at_end at_front w e c = cc e
none_at_end at_size w e c = cc e
none_at_end at_encoders w e c = cc e
none_at_end at_room w e c = cc e
none_at_end at_latency w e c = cc e
none_at_end at_first_frame w e c = cc e
none_at_end in_before w e c = cc e
none_at_end in_block w e c = cc e
none_at_end in_beside w e c = cc e

-- a test that holds, and what is read behind it
behind_test : {A : Type 0} (b : Bool) (cause : ℕ) (f : Bool → Read A) (y : A) → (unless b cause >>= f) ≡ Ok y → (b ≡ true) × (f true ≡ Ok y)
behind_test true cause f y e = (refl, e)
behind_test false cause f y e = absurd (cc e)

ended : (known : Language) (r q : Reading) (line : List ℕ) → is_at_end r.stage ≡ true → after_line known r line ≡ Ok q → ⊥
ended known r q line end e =
    let fs = split_at 32 line in
    by (find_word known.words (field fs 0)) (behind_test (list_all is_text_byte line) bad_byte (λ _. after_fields known r fs (find_word known.words (field fs 0))) q e).1
  where
    by : (o : Option Word) → after_fields known r (split_at 32 line) o ≡ Ok q → ⊥
    by None e = cc e
    by (Some w) e =
        let fs = split_at 32 line in
        let version = behind_test (not (is_other_version known.newest fs)) unknown_version _ q e in
        let place = behind_test (is_in_place r w fs) misplaced_word _ q version.1 in
        none_at_end r.stage w end (stands r.stage r.version r.encoders (last_encoder (blocks_of_last r.frames)) w fs place.0)

same_reading : {r q : Reading} → ◌≡◌ {A = Read Reading} (Ok r) (Ok q) → r ≡ q
same_reading e = cc e

-- behind the end only lines that are skipped are read
at_end_stays : (known : Language) (r q : Reading) (line : List ℕ) → is_at_end r.stage ≡ true → line_read known r line ≡ Ok q → is_at_end q.stage ≡ true
at_end_stays known r q line end e = by (is_skipped line) e
  where
    by : (b : Bool) → cond b (Ok r) (after_line known r line) ≡ Ok q → is_at_end q.stage ≡ true
    by true e = ap (λ k. is_at_end k.stage) (sym (same_reading e)) ∙ end
    by false e = absurd (ended known r q line end e)

not_yet : (known : Language) (r q : Reading) (line : List ℕ) → line_read known r line ≡ Ok q → is_at_end q.stage ≡ false → is_at_end r.stage ≡ false
not_yet known r q line e open_still = by (is_at_end r.stage) refl
  where
    by : (b : Bool) → is_at_end r.stage ≡ b → b ≡ false
    by true end = absurd (cc (sym (at_end_stays known r q line end e) ∙ open_still))
    by false end = refl

-- ---- the pieces of a text

abbrev done_line : List ℕ
done_line = codes "done"

-- how many bytes pieces take, with a newline behind each
abbrev taken_by : List (List ℕ) → ℕ
taken_by [] = 0
taken_by (p ∷ ps) = length p + 1 + taken_by ps

head_taken : (b : ℕ) (ps : List (List ℕ)) (p : List ℕ) (rest : List (List ℕ)) → ps ≡ p ∷ rest → taken_by (with_head b ps) ≡ taken_by ps + 1
head_taken b ps p rest e = ap (λ k. taken_by (with_head b k)) e ∙ omega arith ∙ ap (λ k. taken_by k + 1) (sym e)

pieces_taken : (xs : List ℕ) → taken_by (split_at 10 xs) ≡ length xs + 1
pieces_taken [] = refl
pieces_taken (x ∷ xs) = by (x == 10) (split-has 10 xs) (pieces_taken xs)
  where
    by : (t : Bool) → (p : List ℕ) × (rest : List (List ℕ)) × (split_at 10 xs ≡ p ∷ rest) → taken_by (split_at 10 xs) ≡ length xs + 1 → taken_by (cond t ([] ∷ split_at 10 xs) (with_head x (split_at 10 xs))) ≡ length (x ∷ xs) + 1
    by true r e = omega (arith, e)
    by false r e = omega (arith, e, head_taken x (split_at 10 xs) r.0 r.1 r.2)

head_joined : (b : ℕ) (ps qs : List (List ℕ)) (p : List ℕ) (rest : List (List ℕ)) → ps ≡ p ∷ rest → with_head b (ps ++ qs) ≡ with_head b ps ++ qs
head_joined b ps qs p rest e = ap (λ k. with_head b (k ++ qs)) e ∙ ap (λ k. with_head b k ++ qs) (sym e)

-- a newline ends a piece
split_joined : (xs ys : List ℕ) → split_at 10 (xs ++ 10 ∷ ys) ≡ split_at 10 xs ++ split_at 10 ys
split_joined [] ys = refl
split_joined (x ∷ xs) ys = by (x == 10) (split-has 10 xs) (split_joined xs ys)
  where
    by : (t : Bool) → (p : List ℕ) × (rest : List (List ℕ)) × (split_at 10 xs ≡ p ∷ rest) → split_at 10 (xs ++ 10 ∷ ys) ≡ split_at 10 xs ++ split_at 10 ys
        → cond t ([] ∷ split_at 10 (xs ++ 10 ∷ ys)) (with_head x (split_at 10 (xs ++ 10 ∷ ys))) ≡ cond t ([] ∷ split_at 10 xs) (with_head x (split_at 10 xs)) ++ split_at 10 ys
    by true r e = ap (λ k. [] ∷ k) e
    by false r e = ap (with_head x) e ∙ head_joined x (split_at 10 xs) (split_at 10 ys) r.0 r.1 r.2

-- ---- the same lines, in a text and in a front

one_read : (known : Language) (n : ℕ) (r : Reading) (p : List ℕ) (ps tail : List (List ℕ)) → read_pieces known n (Ok r) (p ∷ (ps ++ done_line ∷ tail)) ≡ read_pieces known (n + 1) (line_read known r p) (ps ++ done_line ∷ tail)
one_read known n r p [] tail = refl
one_read known n r p (q ∷ ps) tail = refl

passed : (known : Language) (n place : ℕ) (r : Reading) (p q : List ℕ) (qs : List (List ℕ)) → is_at_end r.stage ≡ false → front_pieces known n place (Ok r) (p ∷ q ∷ qs) ≡ front_pieces known (n + 1) (place + length p + 1) (line_read known r p) (q ∷ qs)
passed known n place r p q qs open_still = ap (λ b. cond b (Ok (scene_read r, place)) (front_pieces known (n + 1) (place + length p + 1) (line_read known r p) (q ∷ qs))) open_still

one_passed : (known : Language) (n place : ℕ) (r : Reading) (p : List ℕ) (ps tail : List (List ℕ)) → is_at_end r.stage ≡ false
    → front_pieces known n place (Ok r) (p ∷ (ps ++ done_line ∷ tail)) ≡ front_pieces known (n + 1) (place + length p + 1) (line_read known r p) (ps ++ done_line ∷ tail)
one_passed known n place r p [] tail open_still = passed known n place r p done_line tail open_still
one_passed known n place r p (q ∷ ps) tail open_still = passed known n place r p q (ps ++ done_line ∷ tail) open_still

-- at the end a front stops, whatever follows
stops : (known : Language) (n place : ℕ) (r : Reading) (q : List ℕ) (qs : List (List ℕ)) → is_at_end r.stage ≡ true → front_pieces known n place (Ok r) (q ∷ qs) ≡ Ok (scene_read r, place)
stops known n place r q [] end = ap (λ b. cond b (Ok (scene_read r, place)) (with_place place (at_last_piece n r q))) end
stops known n place r q (q2 ∷ qs) end = ap (λ b. cond b (Ok (scene_read r, place)) (front_pieces known (n + 1) (place + length q + 1) (line_read known r q) (q2 ∷ qs))) end

-- from a reading that is not at its end, the lines up to `done` make the scene, and so they do in front of other lines
abbrev Fronted : Language → ℕ → ℕ → Reading → List (List ℕ) → List (List ℕ) → Scene → Type 0
Fronted known n place r lines tail s = (is_at_end r.stage ≡ false) × (front_pieces known n place (Ok r) lines ≡ Ok (s, place + taken_by tail))

at_done : (n : ℕ) (r : Reading) (s : Scene) → at_last_piece n r [] ≡ Ok s → (is_at_end r.stage ≡ true) × (scene_read r ≡ s)
at_done n r s e = by (is_at_end r.stage) e
  where
    by : (b : Bool) → cond {A = Result Scene Fault} b (Ok (scene_read r)) (Err (record { line = n; cause = ends_early })) ≡ Ok s → (b ≡ true) × (scene_read r ≡ s)
    by true e = (refl, cc e)
    by false e = absurd (cc e)

fronted : (known : Language) (xs : List (List ℕ)) (n place : ℕ) (r : Reading) (s : Scene) (q : List ℕ) (qs : List (List ℕ)) → read_pieces known n (Ok r) (xs ++ done_line ∷ [] ∷ []) ≡ Ok s
    → Fronted known n place r (xs ++ done_line ∷ q ∷ qs) (xs ++ done_line ∷ []) s
fronted known [] n place r s q qs e = by (line_read known r done_line) refl e
  where
    by : (m : Read Reading) → line_read known r done_line ≡ m → read_pieces known (n + 1) m ([] ∷ []) ≡ Ok s → Fronted known n place r (done_line ∷ q ∷ qs) (done_line ∷ []) s
    by (Err c) h e = absurd (cc e)
    by (Ok k) h e =
        let last = at_done (n + 1) k s e in
        let before : is_at_end r.stage ≡ false = not_ended (is_at_end r.stage) refl in (
          before,
          passed known n place r done_line q qs before
              ∙ ap (λ m. front_pieces known (n + 1) (place + length done_line + 1) m (q ∷ qs)) h
              ∙ stops known (n + 1) (place + length done_line + 1) k q qs last.0
              ∙ ap (λ t. Ok (t, place + length done_line + 1)) last.1
              ∙ ap (λ t. Ok (s, t)) (omega arith),
        )
      where
        not_ended : (b : Bool) → is_at_end r.stage ≡ b → b ≡ false
        not_ended true end = absurd (ended known r k done_line end h)
        not_ended false end = refl
fronted known (p ∷ ps) n place r s q qs e =
    by (line_read known r p) refl (sym (one_read known n r p ps ([] ∷ [])) ∙ e) (λ k. fronted known ps (n + 1) (place + length p + 1) k s q qs)
  where
    by : (m : Read Reading) → line_read known r p ≡ m → read_pieces known (n + 1) m (ps ++ done_line ∷ [] ∷ []) ≡ Ok s
        → ((k : Reading) → read_pieces known (n + 1) (Ok k) (ps ++ done_line ∷ [] ∷ []) ≡ Ok s → Fronted known (n + 1) (place + length p + 1) k (ps ++ done_line ∷ q ∷ qs) (ps ++ done_line ∷ []) s)
        → Fronted known n place r (p ∷ (ps ++ done_line ∷ q ∷ qs)) (p ∷ (ps ++ done_line ∷ [])) s
    by (Err c) h e later = absurd (cc e)
    by (Ok k) h e later =
        let rest = later k e in
        let before = not_yet known r k p h rest.0 in (
          before,
          one_passed known n place r p ps (q ∷ qs) before
              ∙ ap (λ m. front_pieces known (n + 1) (place + length p + 1) m (ps ++ done_line ∷ q ∷ qs)) h
              ∙ rest.1
              ∙ ap (λ t. Ok (s, t)) (omega arith),
        )

taken_joined : (ps qs : List (List ℕ)) → taken_by (ps ++ qs) ≡ taken_by ps + taken_by qs
taken_joined [] qs = omega arith
taken_joined (p ∷ ps) qs = let e = taken_joined ps qs in omega (arith, e)

-- ---- the law

pub front-law : FrontLaw
front-law known s front rest e =
    let part = split-has 10 rest in
    let own = split_joined front (codes "done\n") in
    let longer : (front ++ codes "\ndone\n") ++ rest ≡ front ++ 10 ∷ (codes "done\n" ++ rest) = append_assoc front (codes "\ndone\n") rest in
    let pieces : split_at 10 ((front ++ codes "\ndone\n") ++ rest) ≡ split_at 10 front ++ done_line ∷ part.0 ∷ part.1 =
    ap (split_at 10) longer ∙ split_joined front (codes "done\n" ++ rest) ∙ ap (λ k. split_at 10 front ++ k) (split-found 10 done_line rest refl) ∙ ap (λ k. split_at 10 front ++ done_line ∷ k) part.2 in
    let read = fronted known (split_at 10 front) 1 0 nothing_read s part.0 part.1 (ap (read_pieces known 1 (Ok nothing_read)) (sym own) ∙ e) in
    let count = taken_joined (split_at 10 front) (done_line ∷ []) in
    let whole = length-append front (codes "\ndone\n") in
    ap (front_pieces known 1 0 (Ok nothing_read)) pieces ∙ read.1 ∙ ap (λ t. Ok (s, t)) (omega (arith, count, whole, pieces_taken front))
