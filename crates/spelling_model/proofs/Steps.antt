-- One line more, in front of the frames and at their ends: where the lines so far are what the reading spells, so they are behind the next line.
use Rattle.std.proofs.Common.{◌≡◌, nat_lt, ℕ, Bool, true, false, List, [], ◌∷◌, ◌++◌, length, lit<, Ok, refl, ap, subst, sym, ◌∙◌}
use Rattle.std.specs.Prelude.{codes}
use Rattle.std.specs.Fmt.{decimal}
use Rattle.gfx_model.specs.Recorder.{Room}
use Rattle.std.proofs.lemmas.List.{append-nil}
use Rattle.scene_model.specs.Scene.{newest_version, greatest_latency}
use Rattle.scene_model.specs.Field.{Read, ◌>>=◌, number_in, number_to, out_of_range}
use Rattle.scene_model.specs.Grammar.{Field, field, scene_word, size_word, encoders_word, room_word, latency_word, frame_word, done_word, Stage, at_front, at_size, at_encoders, at_room, at_latency, at_first_frame, in_before, in_block, in_beside, at_end, can_stand, Reading, says_latency, empty_frame, at_stage, with_version, with_size, with_encoders, with_room, with_latency, with_new_frame, scene_read, has_count, unless, room_form}
use Rattle.spelling_model.specs.LineSpelling.{latency_lines, frames_lines, head_lines}
use Rattle.spelling_model.specs.Spelling.{MayLeaveRoom, MayLeaveLatency, MayLeaveBesides}
use Rattle.spelling_model.proofs.Read.{bind_ok, same_ok, count_ok}
use Rattle.spelling_model.proofs.Numbers.{number_takes}
use Rattle.spelling_model.proofs.Names.{IsPrefix, same_prefix, texts}
use Rattle.spelling_model.proofs.SoFar.{AtHead, Closed, Open, SoFar, scene_line, size_line, encoders_line, closing, opening}

-- the fields are those that the next reading has more, and the names grow
abbrev pub StepTakes : List Field → Reading → Reading → Type 0
StepTakes fs r q = IsPrefix (texts r.names) (texts q.names) × ((all : List Field) → IsPrefix (texts q.names) all → (p : List (List Field)) → SoFar all p r r.stage → SoFar all (p ++ fs ∷ []) q q.stage)

-- what each of these lines does, once its word can stand
abbrev pub scene_form : List Field → Reading → Read Reading
scene_form fs r = do
  _ ← has_count 2 fs
  n ← number_in 1 newest_version (field fs 1)
  Ok (with_version n r)

abbrev pub size_form : List Field → Reading → Read Reading
size_form fs r = do
  _ ← has_count 3 fs
  w ← number_in 1 2048 (field fs 1)
  h ← number_in 1 2048 (field fs 2)
  Ok (with_size w h r)

abbrev pub encoders_form : List Field → Reading → Read Reading
encoders_form fs r = do
  _ ← has_count 2 fs
  n ← number_in 1 8 (field fs 1)
  Ok (with_encoders n r)

abbrev pub room_line_form : List Field → Reading → Read Reading
room_line_form fs r = do
  room ← room_form fs
  Ok (with_room room r)

abbrev pub latency_form : List Field → Reading → Read Reading
latency_form fs r = do
  _ ← has_count 2 fs
  n ← number_in 1 greatest_latency (field fs 1)
  Ok (with_latency n r)

abbrev pub frame_form : List Field → Reading → Read Reading
frame_form fs r = do
  _ ← has_count 1 fs
  _ ← unless (nat_lt (length r.frames) 1024) out_of_range
  Ok (with_new_frame r)

abbrev pub done_form : List Field → Reading → Read Reading
done_form fs r = do
  _ ← has_count 1 fs
  Ok (at_stage at_end r)

-- ---- in front of the frames

front_here : (all : List Field) (p : List (List Field)) (r : Reading) (st : Stage) → can_stand st scene_word ≡ true → SoFar all p r st → AtHead [] p r
front_here all p r at_front c so = so
front_here all p r at_size c so = absurd (cc c)
front_here all p r at_encoders c so = absurd (cc c)
front_here all p r at_room c so = absurd (cc c)
front_here all p r at_latency c so = absurd (cc c)
front_here all p r at_first_frame c so = absurd (cc c)
front_here all p r in_before c so = absurd (cc c)
front_here all p r in_block c so = absurd (cc c)
front_here all p r in_beside c so = absurd (cc c)
front_here all p r at_end c so = absurd (cc c)

size_here : (all : List Field) (p : List (List Field)) (r : Reading) (st : Stage) → can_stand st size_word ≡ true → SoFar all p r st → AtHead (scene_line r.version ∷ []) p r
size_here all p r at_size c so = so
size_here all p r at_front c so = absurd (cc c)
size_here all p r at_encoders c so = absurd (cc c)
size_here all p r at_room c so = absurd (cc c)
size_here all p r at_latency c so = absurd (cc c)
size_here all p r at_first_frame c so = absurd (cc c)
size_here all p r in_before c so = absurd (cc c)
size_here all p r in_block c so = absurd (cc c)
size_here all p r in_beside c so = absurd (cc c)
size_here all p r at_end c so = absurd (cc c)

encoders_here : (all : List Field) (p : List (List Field)) (r : Reading) (st : Stage) → can_stand st encoders_word ≡ true → SoFar all p r st → AtHead (scene_line r.version ∷ size_line r.width r.height ∷ []) p r
encoders_here all p r at_encoders c so = so
encoders_here all p r at_front c so = absurd (cc c)
encoders_here all p r at_size c so = absurd (cc c)
encoders_here all p r at_room c so = absurd (cc c)
encoders_here all p r at_latency c so = absurd (cc c)
encoders_here all p r at_first_frame c so = absurd (cc c)
encoders_here all p r in_before c so = absurd (cc c)
encoders_here all p r in_block c so = absurd (cc c)
encoders_here all p r in_beside c so = absurd (cc c)
encoders_here all p r at_end c so = absurd (cc c)

room_here : (all : List Field) (p : List (List Field)) (r : Reading) (st : Stage) → can_stand st room_word ≡ true → SoFar all p r st → AtHead (scene_line r.version ∷ size_line r.width r.height ∷ encoders_line r.encoders ∷ []) p r
room_here all p r at_room c so = so
room_here all p r at_front c so = absurd (cc c)
room_here all p r at_size c so = absurd (cc c)
room_here all p r at_encoders c so = absurd (cc c)
room_here all p r at_latency c so = absurd (cc c)
room_here all p r at_first_frame c so = absurd (cc c)
room_here all p r in_before c so = absurd (cc c)
room_here all p r in_block c so = absurd (cc c)
room_here all p r in_beside c so = absurd (cc c)
room_here all p r at_end c so = absurd (cc c)

pub scene_step : (fs : List Field) (r q : Reading) → scene_form fs r ≡ Ok q → can_stand r.stage scene_word ≡ true → field fs 0 ≡ codes "scene" → StepTakes fs r q
scene_step fs r q e place word =
    let c = bind_ok (has_count 2 fs) _ q e in
    let n = bind_ok (number_in 1 newest_version (field fs 1)) _ q c.2 in
    let made : with_version n.0 r ≡ q = same_ok n.2 in
    let s1 : field fs 1 ≡ decimal n.0 = number_takes 1 newest_version (field fs 1) n.0 (lit< tt) n.1 in
    let own : fs ≡ scene_line n.0 = count_ok 2 fs c.0 c.1 ∙ (λ i. word i ∷ s1 i ∷ []) in
    subst (StepTakes fs r) made (
      same_prefix (texts r.names),
      λ all old p so.
          let h = front_here all p r r.stage place so in
          (λ i. h.0 i ++ own i ∷ [], h.1, h.2, h.3),
    )

pub size_step : (fs : List Field) (r q : Reading) → size_form fs r ≡ Ok q → can_stand r.stage size_word ≡ true → field fs 0 ≡ codes "size" → StepTakes fs r q
size_step fs r q e place word =
    let c = bind_ok (has_count 3 fs) _ q e in
    let w = bind_ok (number_in 1 2048 (field fs 1)) _ q c.2 in
    let h = bind_ok (number_in 1 2048 (field fs 2)) _ q w.2 in
    let made : with_size w.0 h.0 r ≡ q = same_ok h.2 in
    let s1 : field fs 1 ≡ decimal w.0 = number_takes 1 2048 (field fs 1) w.0 (lit< tt) w.1 in
    let s2 : field fs 2 ≡ decimal h.0 = number_takes 1 2048 (field fs 2) h.0 (lit< tt) h.1 in
    let own : fs ≡ size_line w.0 h.0 = count_ok 3 fs c.0 c.1 ∙ (λ i. word i ∷ s1 i ∷ s2 i ∷ []) in
    subst (StepTakes fs r) made (
      same_prefix (texts r.names),
      λ all old p so.
          let h = size_here all p r r.stage place so in
          (λ i. h.0 i ++ own i ∷ [], h.1, h.2, h.3),
    )

pub encoders_step : (fs : List Field) (r q : Reading) → encoders_form fs r ≡ Ok q → can_stand r.stage encoders_word ≡ true → field fs 0 ≡ codes "encoders" → StepTakes fs r q
encoders_step fs r q e place word =
    let c = bind_ok (has_count 2 fs) _ q e in
    let n = bind_ok (number_in 1 8 (field fs 1)) _ q c.2 in
    let made : with_encoders n.0 r ≡ q = same_ok n.2 in
    let s1 : field fs 1 ≡ decimal n.0 = number_takes 1 8 (field fs 1) n.0 (lit< tt) n.1 in
    let own : fs ≡ encoders_line n.0 = count_ok 2 fs c.0 c.1 ∙ (λ i. word i ∷ s1 i ∷ []) in
    subst (StepTakes fs r) made (
      same_prefix (texts r.names),
      λ all old p so.
          let h = encoders_here all p r r.stage place so in
          (λ i. h.0 i ++ own i ∷ [], h.1, h.2, h.3),
    )

abbrev room_line : Room → List Field
room_line room = codes "room" ∷ decimal room.items ∷ decimal room.bytes ∷ decimal room.uniforms ∷ []

room_takes : (fs : List Field) (room : Room) → room_form fs ≡ Ok room → field fs 0 ≡ codes "room" → fs ≡ room_line room
room_takes fs room e word =
    let c = bind_ok (has_count 4 fs) _ room e in
    let i = bind_ok (number_in 1 8191 (field fs 1)) _ room c.2 in
    let b = bind_ok (number_to 1048576 (field fs 2)) _ room i.2 in
    let u = bind_ok (number_to 8191 (field fs 3)) _ room b.2 in
    let made : record { items = i.0; bytes = b.0; uniforms = u.0 } ≡ room = same_ok u.2 in
    let s1 : field fs 1 ≡ decimal i.0 = number_takes 1 8191 (field fs 1) i.0 (lit< tt) i.1 in
    let s2 : field fs 2 ≡ decimal b.0 = number_takes 0 1048576 (field fs 2) b.0 (lit< tt) b.1 in
    let s3 : field fs 3 ≡ decimal u.0 = number_takes 0 8191 (field fs 3) u.0 (lit< tt) u.1 in
    count_ok 4 fs c.0 c.1 ∙ (λ i. word i ∷ s1 i ∷ s2 i ∷ s3 i ∷ []) ∙ ap room_line made

pub room_step : (fs : List Field) (r q : Reading) → room_line_form fs r ≡ Ok q → can_stand r.stage room_word ≡ true → field fs 0 ≡ codes "room" → StepTakes fs r q
room_step fs r q e place word =
    let room = bind_ok (room_form fs) _ q e in
    let made : with_room room.0 r ≡ q = same_ok room.2 in
    let own : fs ≡ room_line room.0 = room_takes fs room.0 room.1 word in
    subst (StepTakes fs r) made (
      same_prefix (texts r.names),
      λ all old p so.
          let h = room_here all p r r.stage place so in
          (λ i. h.0 i ++ own i ∷ [], h.1, h.3),
    )

-- where a `latency` line may stand: behind the encoders or the room
abbrev BeforeLatency : List (List Field) → Reading → Type 0
BeforeLatency p r = (with_room : Bool) × (p ≡ head_lines with_room false (scene_read r)) × (r.frames ≡ []) × MayLeaveRoom with_room (scene_read r)

latency_here : (all : List Field) (p : List (List Field)) (r : Reading) (st : Stage) → can_stand st latency_word ≡ true → SoFar all p r st → BeforeLatency p r
latency_here all p r at_room c so = (false, so.0, so.1, λ e. so.2)
latency_here all p r at_latency c so = (true, so.0, so.1, λ e. absurd (cc e))
latency_here all p r at_front c so = absurd (cc c)
latency_here all p r at_size c so = absurd (cc c)
latency_here all p r at_encoders c so = absurd (cc c)
latency_here all p r at_first_frame c so = absurd (cc c)
latency_here all p r in_before c so = absurd (cc c)
latency_here all p r in_block c so = absurd (cc c)
latency_here all p r in_beside c so = absurd (cc c)
latency_here all p r at_end c so = absurd (cc c)

latency_behind : (with_room : Bool) (r : Reading) (n : ℕ) → head_lines with_room false (scene_read r) ++ latency_lines true n ≡ head_lines with_room true (scene_read (with_latency n r))
latency_behind true r n = refl
latency_behind false r n = refl

pub latency_step : (fs : List Field) (r q : Reading) → latency_form fs r ≡ Ok q → can_stand r.stage latency_word ≡ true → says_latency r.version ≡ true → field fs 0 ≡ codes "latency" → StepTakes fs r q
latency_step fs r q e place says word =
    let c = bind_ok (has_count 2 fs) _ q e in
    let n = bind_ok (number_in 1 greatest_latency (field fs 1)) _ q c.2 in
    let made : with_latency n.0 r ≡ q = same_ok n.2 in
    let s1 : field fs 1 ≡ decimal n.0 = number_takes 1 greatest_latency (field fs 1) n.0 (lit< tt) n.1 in
    let own : fs ≡ codes "latency" ∷ decimal n.0 ∷ [] = count_ok 2 fs c.0 c.1 ∙ (λ i. word i ∷ s1 i ∷ []) in
    subst (StepTakes fs r) made (
      same_prefix (texts r.names),
      λ all old p so.
          let h = latency_here all p r r.stage place so in
          (h.0, (λ i. h.1 i ++ own i ∷ []) ∙ latency_behind h.0 r n.0, h.2, h.3, says),
    )

-- ---- the ends of frames

no_frames : (all : List Field) (p : List (List Field)) (r : Reading) (with_room with_latency : Bool) → MayLeaveRoom with_room (scene_read r) → MayLeaveLatency with_latency r.version r.latency → p ≡ head_lines with_room with_latency (scene_read r) → r.frames ≡ [] → Closed all p r
no_frames all p r with_room with_latency room latency lines none = record {
  with_room = with_room;
  with_latency = with_latency;
  besides = [];
  room_left = room;
  latency_left = latency;
  besides_left = subst (MayLeaveBesides []) (sym none) tt;
  lines = lines ∙ sym (append-nil (head_lines with_room with_latency (scene_read r))) ∙ ap (λ k. head_lines with_room with_latency (scene_read r) ++ frames_lines all [] k) (sym none);
}

closed_here : (all : List Field) (p : List (List Field)) (r : Reading) (st : Stage) → can_stand st frame_word ≡ true → SoFar all p r st → Closed all p r
closed_here all p r at_room c so = no_frames all p r false false (λ e. so.2) so.3 so.0 so.1
closed_here all p r at_latency c so = no_frames all p r true false (λ e. absurd (cc e)) so.2 so.0 so.1
closed_here all p r at_first_frame c so = no_frames all p r so.0 true so.3 so.4 so.1 so.2
closed_here all p r in_before c so = closing all false so.0 p r so.1 (λ e. so.3)
closed_here all p r in_block c so = closing all false so.0 p r so.1 (λ e. so.3)
closed_here all p r in_beside c so = closing all true so.0 p r so.1 (λ e. absurd (cc e))
closed_here all p r at_front c so = absurd (cc c)
closed_here all p r at_size c so = absurd (cc c)
closed_here all p r at_encoders c so = absurd (cc c)
closed_here all p r at_end c so = absurd (cc c)

-- where `done` can stand, so can `frame`
frame_too : (st : Stage) → can_stand st done_word ≡ true → can_stand st frame_word ≡ true
frame_too in_before c = refl
frame_too in_block c = refl
frame_too in_beside c = refl
frame_too at_room c = refl
frame_too at_latency c = refl
frame_too at_first_frame c = refl
frame_too at_front c = c
frame_too at_size c = c
frame_too at_encoders c = c
frame_too at_end c = c

pub frame_step : (fs : List Field) (r q : Reading) → frame_form fs r ≡ Ok q → can_stand r.stage frame_word ≡ true → field fs 0 ≡ codes "frame" → StepTakes fs r q
frame_step fs r q e place word =
    let c = bind_ok (has_count 1 fs) _ q e in
    let n = bind_ok (unless (nat_lt (length r.frames) 1024) out_of_range) _ q c.2 in
    let made : with_new_frame r ≡ q = same_ok n.2 in
    let own : codes "frame" ∷ [] ≡ fs = sym (count_ok 1 fs c.0 c.1 ∙ (λ i. word i ∷ [])) in
    subst (StepTakes fs r) made (
      same_prefix (texts r.names),
      λ all old p so.
          let o = opening all p r (closed_here all p r r.stage place so) in
          (empty_frame, subst (λ k. Open all false empty_frame (p ++ k ∷ []) (with_new_frame r)) own o, refl, refl),
    )

pub done_step : (fs : List Field) (r q : Reading) → done_form fs r ≡ Ok q → can_stand r.stage done_word ≡ true → field fs 0 ≡ codes "done" → StepTakes fs r q
done_step fs r q e place word =
    let c = bind_ok (has_count 1 fs) _ q e in
    let made : at_stage at_end r ≡ q = same_ok c.2 in
    let own : fs ≡ codes "done" ∷ [] = count_ok 1 fs c.0 c.1 ∙ (λ i. word i ∷ []) in
    subst (StepTakes fs r) made (
      same_prefix (texts r.names),
      λ all old p so.
          let k = closed_here all p r r.stage (frame_too r.stage place) so in
          (p, record { with_room = k.with_room; with_latency = k.with_latency; besides = k.besides; room_left = k.room_left; latency_left = k.latency_left; besides_left = k.besides_left; lines = k.lines }, λ i. p ++ own i ∷ []),
    )
