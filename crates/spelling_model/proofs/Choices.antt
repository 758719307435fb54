-- A `room` line with the plain room, a `latency` line that says 1 and a `beside` line without lines behind it change nothing that is read.
use Rattle.std.proofs.Common.{◌≡◌, ℕ, arith, inl, inr, Bool, true, false, not, ◌==◌, List, [], ◌∷◌, ◌++◌, map, Ok, refl, ap, subst, sym, ◌∙◌, append_assoc}
use Rattle.std.specs.Prelude.{codes, flat_map}
use Rattle.std.specs.Fmt.{decimal, digits}
use Rattle.std.proofs.lemmas.Bool.Decides.{nat_tests}
use Rattle.gfx_model.specs.Recorder.{Room}
use Rattle.scene_model.specs.Scene.{SceneFrame, Scene, newest_version, IsVersion}
use Rattle.scene_model.specs.Field.{Read, number_in}
use Rattle.scene_model.specs.Grammar.{Field, Stage, in_before, in_block, at_room, at_latency, Reading, nothing_read, plain_room, says_latency, after_word}
use Rattle.spelling_model.specs.LineSpelling.{resource_fields, block_lines, beside_lines, frame_lines, frames_lines, room_lines, latency_lines, head_lines, spelled_lines}
use Rattle.spelling_model.specs.Spelling.{MayLeaveRoom, MayLeaveLatency, MayLeaveBesides}
use Rattle.spelling_model.proofs.Read.{bind_ok, same_ok}
use Rattle.spelling_model.proofs.SoFar.{scene_line, size_line, encoders_line}
use Rattle.spelling_model.proofs.ReadLines.{after_kept, read_fields}
use Rattle.spelling_model.proofs.Stages.{read-append, behind_same, IsAtDrawing, frame_line_stage, resources_stage, blocks_stage, head_keeps, room_line_keeps}

abbrev done_line : List Field
done_line = codes "done" ∷ []

abbrev frame_line : List Field
frame_line = codes "frame" ∷ []

-- the reading with another stage, and with another room
abbrev standing : Stage → Reading → Reading
standing st r = record r { stage = st }

abbrev roomed : Room → Stage → Reading → Reading
roomed room st r = record r { room = room; stage = st }

abbrev delayed : (version latency : ℕ) → Stage → Reading → Reading
delayed version latency st r = record r { version = version; latency = latency; stage = st }

-- the lines of the frames up to the end, where each `beside` line is written
abbrev all_written : List SceneFrame → List Bool
all_written frames = map (λ f. true) frames

abbrev up_to_end : List Field → List Bool → List SceneFrame → List (List Field)
up_to_end names besides frames = frames_lines names besides frames ++ done_line ∷ []

-- the lines up to the end behind the first `frame` line
abbrev behind_frame : List Field → SceneFrame → List SceneFrame → List (List Field)
behind_frame names f frames =
    ((map (resource_fields names) f.before ++ (flat_map (block_lines names) f.blocks ++ beside_lines names true f.beside)) ++ frames_lines names (all_written frames) frames) ++ done_line ∷ []

-- ---- the `beside` line

before_frame : (r : Reading) (rest : List (List Field)) → (read_fields (standing in_before r) (frame_line ∷ rest) ≡ read_fields (standing in_before r) ((codes "beside" ∷ []) ∷ frame_line ∷ rest)) × (read_fields (standing in_block r) (frame_line ∷ rest) ≡ read_fields (standing in_block r) ((codes "beside" ∷ []) ∷ frame_line ∷ rest))
unfolding after_word
before_frame r rest = (refl, refl)

before_done : (r : Reading) → (read_fields (standing in_before r) (done_line ∷ []) ≡ read_fields (standing in_before r) ((codes "beside" ∷ []) ∷ done_line ∷ [])) × (read_fields (standing in_block r) (done_line ∷ []) ≡ read_fields (standing in_block r) ((codes "beside" ∷ []) ∷ done_line ∷ []))
unfolding after_word
before_done r = (refl, refl)

abbrev EmptyBeside : List (List Field) → Reading → Type 0
EmptyBeside lines r = read_fields r lines ≡ read_fields r ((codes "beside" ∷ []) ∷ lines)

empty_at : (st : Stage) (r : Reading) (lines : List (List Field)) → r.stage ≡ st → EmptyBeside lines (standing st r) → EmptyBeside lines r
empty_at st r lines at h = subst (EmptyBeside lines) (λ i. standing (sym at i) r) h

empty_beside : (names : List Field) (frames : List SceneFrame) (r : Reading) → IsAtDrawing r.stage → EmptyBeside (up_to_end names (all_written frames) frames) r
empty_beside names [] r (inl at) = empty_at in_before r (done_line ∷ []) at (before_done r).0
empty_beside names [] r (inr at) = empty_at in_block r (done_line ∷ []) at (before_done r).1
empty_beside names (f ∷ frames) r (inl at) = empty_at in_before r (frame_line ∷ behind_frame names f frames) at (before_frame r (behind_frame names f frames)).0
empty_beside names (f ∷ frames) r (inr at) = empty_at in_block r (frame_line ∷ behind_frame names f frames) at (before_frame r (behind_frame names f frames)).1

-- ---- frames

-- a frame's lines before its `beside` line
abbrev drawn_lines : List Field → SceneFrame → List (List Field)
drawn_lines names f = frame_line ∷ (map (resource_fields names) f.before ++ flat_map (block_lines names) f.blocks)

frame_parts : (names : List Field) (b : Bool) (f : SceneFrame) (xs ys : List (List Field)) → (frame_lines names b f ++ xs) ++ ys ≡ drawn_lines names f ++ (beside_lines names b f.beside ++ (xs ++ ys))
frame_parts names b f xs ys =
    append_assoc (frame_lines names b f) xs ys
    ∙ ap (λ k. (frame_line ∷ k) ++ (xs ++ ys)) (sym (append_assoc (map (resource_fields names) f.before) (flat_map (block_lines names) f.blocks) (beside_lines names b f.beside)))
    ∙ append_assoc (drawn_lines names f) (beside_lines names b f.beside) (xs ++ ys)

drawn_stage : (names : List Field) (f : SceneFrame) (r q : Reading) → read_fields r (drawn_lines names f) ≡ Ok q → IsAtDrawing q.stage
drawn_stage names f r q e =
    let a = bind_ok (after_kept r frame_line) _ q e in
    let b = bind_ok (read_fields a.0 (map (resource_fields names) f.before)) _ q (sym (read-append (map (resource_fields names) f.before) (flat_map (block_lines names) f.blocks) a.0) ∙ a.2) in
    blocks_stage names f.blocks b.0 q b.2 (inl (resources_stage names f.before a.0 b.0 b.1 ∙ frame_line_stage r a.0 a.1))

frames_same : (names : List Field) (besides : List Bool) (frames : List SceneFrame) → MayLeaveBesides besides frames → (r : Reading) → read_fields r (up_to_end names besides frames) ≡ read_fields r (up_to_end names (all_written frames) frames)
frames_same names [] [] left r = refl
frames_same names [] (f ∷ frames) left r = absurd left
frames_same names (b ∷ besides) [] left r = absurd left
frames_same names (b ∷ besides) (f ∷ frames) left r =
    ap (read_fields r) (frame_parts names b f (frames_lines names besides frames) (done_line ∷ []))
    ∙ behind_same (drawn_lines names f) (beside_lines names b f.beside ++ up_to_end names besides frames) (beside_lines names true f.beside ++ up_to_end names (all_written frames) frames) r
    (λ q e. by b left.0 q (drawn_stage names f r q e) (frames_same names besides frames left.1))
    ∙ ap (read_fields r) (sym (frame_parts names true f (frames_lines names (all_written frames) frames) (done_line ∷ [])))
  where
    by : (b : Bool) → (b ≡ false → f.beside ≡ []) → (q : Reading) → IsAtDrawing q.stage → ((r : Reading) → read_fields r (up_to_end names besides frames) ≡ read_fields r (up_to_end names (all_written frames) frames))
        → read_fields q (beside_lines names b f.beside ++ up_to_end names besides frames) ≡ read_fields q (beside_lines names true f.beside ++ up_to_end names (all_written frames) frames)
    by true left q at same = behind_same (beside_lines names true f.beside) (up_to_end names besides frames) (up_to_end names (all_written frames) frames) q (λ m e. same m)
    by false left q at same =
        same q ∙ empty_beside names frames q at
        ∙ ap (λ ls. read_fields q (((codes "beside" ∷ []) ∷ map (resource_fields names) ls) ++ up_to_end names (all_written frames) frames)) (sym (left refl))

-- ---- the `room` line

abbrev PlainRoom : List (List Field) → Reading → Type 0
PlainRoom lines r = read_fields r lines ≡ read_fields r (room_lines true plain_room ++ lines)

room_frame : (r : Reading) (rest : List (List Field)) → PlainRoom (frame_line ∷ rest) (roomed plain_room at_room r)
unfolding after_word digits
room_frame r rest = refl

room_done : (r : Reading) → PlainRoom (done_line ∷ []) (roomed plain_room at_room r)
unfolding after_word digits
room_done r = refl

room_latency : (r : Reading) (latency : ℕ) (rest : List (List Field)) → PlainRoom (latency_lines true latency ++ rest) (roomed plain_room at_room r)
unfolding after_word digits
room_latency r latency rest = refl

room_at : (r : Reading) (lines : List (List Field)) → r.room ≡ plain_room → r.stage ≡ at_room → PlainRoom lines (roomed plain_room at_room r) → PlainRoom lines r
room_at r lines room at h = let room' = sym room in let at' = sym at in subst (PlainRoom lines) (λ i. roomed (room' i) (at' i) r) h

plain_room_line : (names : List Field) (frames : List SceneFrame) (b : Bool) (latency : ℕ) (r : Reading) → r.room ≡ plain_room → r.stage ≡ at_room → PlainRoom (latency_lines b latency ++ up_to_end names (all_written frames) frames) r
plain_room_line names frames true latency r room at = room_at r (latency_lines true latency ++ up_to_end names (all_written frames) frames) room at (room_latency r latency (up_to_end names (all_written frames) frames))
plain_room_line names [] false latency r room at = room_at r (done_line ∷ []) room at (room_done r)
plain_room_line names (f ∷ frames) false latency r room at = room_at r (frame_line ∷ behind_frame names f frames) room at (room_frame r (behind_frame names f frames))

-- ---- the `latency` line

abbrev PlainLatency : List (List Field) → Reading → Type 0
PlainLatency lines r = read_fields r lines ≡ read_fields r (latency_lines true 1 ++ lines)

latency_frame : (r : Reading) (rest : List (List Field)) → PlainLatency (frame_line ∷ rest) (delayed 2 1 at_latency r)
unfolding after_word digits
latency_frame r rest = refl

latency_done : (r : Reading) → PlainLatency (done_line ∷ []) (delayed 2 1 at_latency r)
unfolding after_word digits
latency_done r = refl

latency_at : (r : Reading) (lines : List (List Field)) → r.version ≡ 2 → r.latency ≡ 1 → r.stage ≡ at_latency → PlainLatency lines (delayed 2 1 at_latency r) → PlainLatency lines r
latency_at r lines version latency at h = let version' = sym version in let latency' = sym latency in let at' = sym at in subst (PlainLatency lines) (λ i. delayed (version' i) (latency' i) (at' i) r) h

plain_latency_line : (names : List Field) (frames : List SceneFrame) (r : Reading) → r.version ≡ 2 → r.latency ≡ 1 → r.stage ≡ at_latency → PlainLatency (up_to_end names (all_written frames) frames) r
plain_latency_line names [] r version latency at = latency_at r (done_line ∷ []) version latency at (latency_done r)
plain_latency_line names (f ∷ frames) r version latency at = latency_at r (frame_line ∷ behind_frame names f frames) version latency at (latency_frame r (behind_frame names f frames))

-- ---- scenes

-- the lines of a scene's frames up to its end, with each `beside` line
abbrev frames_to_end : Scene → List (List Field)
frames_to_end s = up_to_end s.names (all_written s.frames) s.frames

-- the first three lines
abbrev front_lines : Scene → List (List Field)
front_lines s = scene_line s.version ∷ size_line s.width s.height ∷ encoders_line s.encoders ∷ []

room_same : (with_room with_latency : Bool) (s : Scene) → MayLeaveRoom with_room s → read_fields nothing_read (head_lines with_room with_latency s ++ frames_to_end s) ≡ read_fields nothing_read (head_lines true with_latency s ++ frames_to_end s)
room_same true with_latency s left = refl
room_same false with_latency s left =
    behind_same (front_lines s) (latency_lines with_latency s.latency ++ frames_to_end s) (room_lines true plain_room ++ (latency_lines with_latency s.latency ++ frames_to_end s)) nothing_read
    (λ q e. let h = head_keeps nothing_read q s.version s.width s.height s.encoders e in plain_room_line s.names s.frames with_latency s.latency q h.0.0 h.2)
    ∙ ap (λ room. read_fields nothing_read (front_lines s ++ (room_lines true room ++ (latency_lines with_latency s.latency ++ frames_to_end s)))) (sym (left refl))

-- what stands behind a `room` line of version 2, with latency 1
behind_room : (s : Scene) (q : Reading) → s.version ≡ 2 → read_fields nothing_read (front_lines s ++ room_lines true s.room) ≡ Ok q → (q.version ≡ 2) × (q.latency ≡ 1) × (q.stage ≡ at_latency)
unfolding digits
behind_room s q version e =
    let t = bind_ok (read_fields nothing_read (front_lines s)) _ q (sym (read-append (front_lines s) (room_lines true s.room) nothing_read) ∙ e) in
    let h = head_keeps nothing_read t.0 s.version s.width s.height s.encoders t.1 in
    let u = bind_ok (after_kept t.0 (codes "room" ∷ decimal s.room.items ∷ decimal s.room.bytes ∷ decimal s.room.uniforms ∷ [])) _ q t.2 in
    let same : u.0 ≡ q = same_ok u.2 in
    let k = room_line_keeps t.0 u.0 s.room u.1 in
    let read : ◌≡◌ {A = Read ℕ} (Ok 2) (Ok t.0.version) = subst (λ v. number_in 1 newest_version (decimal v) ≡ Ok t.0.version) version h.1 in
    subst (λ q. (q.version ≡ 2) × (q.latency ≡ 1) × (q.stage ≡ at_latency)) same (k.1 ∙ sym (same_ok read), k.0 ∙ h.0.1, k.2)

-- the version that says its latency is the second
second_version : (v : ℕ) → IsVersion v → says_latency v ≡ true → v ≡ 2
second_version v h says = by (v == 1) refl says
  where
    by : (b : Bool) → (v == 1) ≡ b → not b ≡ true → v ≡ 2
    by true e k = absurd (cc k)
    by false e k = grind (arith, nat_tests)

latency_same : (with_latency : Bool) (s : Scene) → IsVersion s.version → MayLeaveLatency with_latency s.version s.latency → read_fields nothing_read (head_lines true with_latency s ++ frames_to_end s) ≡ read_fields nothing_read (head_lines true (says_latency s.version) s ++ frames_to_end s)
latency_same true s version left = ap (λ b. read_fields nothing_read (head_lines true b s ++ frames_to_end s)) (sym left)
latency_same false s version left = by (says_latency s.version) refl
  where
    by : (b : Bool) → says_latency s.version ≡ b → read_fields nothing_read (head_lines true false s ++ frames_to_end s) ≡ read_fields nothing_read (head_lines true b s ++ frames_to_end s)
    by false says = refl
    by true says =
        behind_same (front_lines s ++ room_lines true s.room) (frames_to_end s) (latency_lines true 1 ++ frames_to_end s) nothing_read
        (λ q e. let h = behind_room s q (second_version s.version version says) e in plain_latency_line s.names s.frames q h.0 h.1 h.2)
        ∙ ap (λ latency. read_fields nothing_read (front_lines s ++ (room_lines true s.room ++ (latency_lines true latency ++ frames_to_end s)))) (sym left)

-- with or without these lines, a scene's lines are read alike
pub choices_same : (with_room with_latency : Bool) (besides : List Bool) (s : Scene) → IsVersion s.version → MayLeaveRoom with_room s → MayLeaveLatency with_latency s.version s.latency → MayLeaveBesides besides s.frames
    → read_fields nothing_read (spelled_lines with_room with_latency besides s) ≡ read_fields nothing_read (spelled_lines true (says_latency s.version) (all_written s.frames) s)
choices_same with_room with_latency besides s version room latency left =
    behind_same (head_lines with_room with_latency s) (up_to_end s.names besides s.frames) (frames_to_end s) nothing_read (λ q e. frames_same s.names besides s.frames left q)
    ∙ room_same with_room with_latency s room
    ∙ latency_same with_latency s version latency
