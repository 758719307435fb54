-- What is written of a readable scene is read as that scene.
use Rattle.std.proofs.Common.{◌≡◌, ℕ, eqb-true, Bool, true, false, not, ◌==◌, List, [], ◌∷◌, ◌++◌, map, length, refl, subst, sym, ◌∙◌}
use Rattle.std.specs.Prelude.{codes, flat_map}
use Rattle.std.specs.Fmt.{digits}
use Rattle.std.proofs.lemmas.List.{nil_from_length}
use Rattle.gfx_model.specs.Recorder.{Room}
use Rattle.scene_model.specs.Scene.{ResourceLine, SceneFrame, Scene}
use Rattle.scene_model.specs.Grammar.{Field, plain_room, says_latency}
use Rattle.spelling_model.specs.LineSpelling.{resource_fields, block_lines, beside_lines, frame_lines, frames_lines, room_lines, latency_lines, head_lines, spelled_lines}
use Rattle.spelling_model.specs.Spelling.{MayLeaveRoom, MayLeaveLatency, MayLeaveBesides, Spells}
use Rattle.spelling_model.specs.Written.{scene_text, has_beside, written, WritingLaw, ReadableLaw}
use Rattle.spelling_model.proofs.LineTexts.{IsLine, AreLines, lines_apart, lines_joined, lines_of_text, text_of_lines}
use Rattle.spelling_model.proofs.FrameRanges.{reads-readable}
use Rattle.spelling_model.proofs.TextsAgain.{readable-read}
use Rattle.spelling_model.proofs.Reading.{reading-law}

-- ---- other choices have lines too

beside_is_line : IsLine (codes "beside" ∷ [])
beside_is_line = (codes "beside", refl, refl, refl)

room_is_line : AreLines (room_lines true plain_room)
unfolding digits
room_is_line = ((codes "room 8191 262144 4096", refl, refl, refl), tt)

beside_lines_too : (names : List Field) (lines : List ResourceLine) (a b : Bool) → (a ≡ false → lines ≡ []) → AreLines (beside_lines names a lines) → AreLines (beside_lines names b lines)
beside_lines_too names lines a false left h = tt
beside_lines_too names lines true true left h = h
beside_lines_too names lines false true left h = subst (λ ls. AreLines (beside_lines names true ls)) (sym (left refl)) (beside_is_line, tt)

frames_too : (names : List Field) (given wanted : List Bool) (frames : List SceneFrame) → MayLeaveBesides given frames → AreLines (frames_lines names given frames) → AreLines (frames_lines names wanted frames)
frames_too names given [] frames left h = tt
frames_too names given (b ∷ wanted) [] left h = tt
frames_too names [] (b ∷ wanted) (f ∷ frames) left h = absurd left
frames_too names (a ∷ given) (b ∷ wanted) (f ∷ frames) left h =
    let frame = lines_apart (frame_lines names a f) (frames_lines names given frames) h in
    let before = lines_apart (map (resource_fields names) f.before) (flat_map (block_lines names) f.blocks ++ beside_lines names a f.beside) frame.0.1 in
    let blocks = lines_apart (flat_map (block_lines names) f.blocks) (beside_lines names a f.beside) before.1 in
    let beside = beside_lines_too names f.beside a b left.0 blocks.1 in
    let behind = lines_joined (flat_map (block_lines names) f.blocks) (beside_lines names b f.beside) blocks.0 beside in
    let whole : AreLines (frame_lines names b f) = (frame.0.0, lines_joined (map (resource_fields names) f.before) (flat_map (block_lines names) f.blocks ++ beside_lines names b f.beside) before.0 behind) in
    lines_joined (frame_lines names b f) (frames_lines names wanted frames) whole (frames_too names given wanted frames left.1 frame.1)

room_too : (room : Room) (a b : Bool) → (a ≡ false → room ≡ plain_room) → AreLines (room_lines a room) → AreLines (room_lines b room)
room_too room a false left h = tt
room_too room true true left h = h
room_too room false true left h = subst (λ r. AreLines (room_lines true r)) (sym (left refl)) room_is_line

latency_is_line : AreLines (latency_lines true 1)
unfolding digits
latency_is_line = ((codes "latency 1", refl, refl, refl), tt)

latency_too : (s : Scene) (a b : Bool) → MayLeaveLatency a s.version s.latency → AreLines (latency_lines a s.latency) → AreLines (latency_lines b s.latency)
latency_too s a false left h = tt
latency_too s true true left h = h
latency_too s false true left h = subst (λ n. AreLines (latency_lines true n)) (sym left) latency_is_line

scene_too : (s : Scene) (a b l m : Bool) (given wanted : List Bool) → MayLeaveRoom a s → MayLeaveLatency l s.version s.latency → MayLeaveBesides given s.frames → AreLines (spelled_lines a l given s) → AreLines (spelled_lines b m wanted s)
scene_too s a b l m given wanted room latency left h =
    let end = frames_lines s.names given s.frames ++ (codes "done" ∷ []) ∷ [] in
    let head = lines_apart (head_lines a l s) end h in
    let more = lines_apart (room_lines a s.room) (latency_lines l s.latency) head.0.1.1.1 in
    let frames = lines_apart (frames_lines s.names given s.frames) ((codes "done" ∷ []) ∷ []) head.1 in
    let front : AreLines (head_lines b m s) = (head.0.0, (head.0.1.0, (head.0.1.1.0, lines_joined (room_lines b s.room) (latency_lines m s.latency) (room_too s.room a b room more.0) (latency_too s l m latency more.1)))) in
    lines_joined (head_lines b m s) (frames_lines s.names wanted s.frames ++ (codes "done" ∷ []) ∷ []) front
    (lines_joined (frames_lines s.names wanted s.frames) ((codes "done" ∷ []) ∷ []) (frames_too s.names given wanted s.frames left frames.0) frames.1)

-- ---- the law

text_spells : (s : Scene) (text : List ℕ) → Spells text s → (with_room with_latency : Bool) (besides : List Bool) → MayLeaveRoom with_room s → MayLeaveLatency with_latency s.version s.latency → MayLeaveBesides besides s.frames → Spells (scene_text with_room with_latency besides s) s
text_spells s text k with_room with_latency besides room latency left =
    let own : AreLines (spelled_lines k.1.with_room k.1.with_latency k.1.besides s) = subst AreLines k.1.spelled (lines_of_text text) in
    let lines = scene_too s k.1.with_room with_room k.1.with_latency with_latency k.1.besides besides k.1.room_left k.1.latency_left k.1.besides_left own in
    let t = text_of_lines (spelled_lines with_room with_latency besides s) lines in
    (t.0, record { with_room = with_room; with_latency = with_latency; besides = besides; room_left = room; latency_left = latency; besides_left = left; spelled = t.1 })

-- `beside` is written where lines follow it
written_left : (frames : List SceneFrame) → MayLeaveBesides (map has_beside frames) frames
written_left [] = tt
written_left (f ∷ frames) = (by (length f.beside == 0) refl, written_left frames)
  where
    by : (t : Bool) → (length f.beside == 0) ≡ t → not t ≡ false → f.beside ≡ []
    by true h e = nil_from_length f.beside (eqb-true _ _ h)
    by false h e = absurd (cc e)

-- `latency` is written wherever it may stand: where it may not, the text that is read has none, and so the latency is 1
written_latency : (s : Scene) (b : Bool) → MayLeaveLatency b s.version s.latency → MayLeaveLatency (says_latency s.version) s.version s.latency
written_latency s b left = by (says_latency s.version) refl b left
  where
    by : (c : Bool) → says_latency s.version ≡ c → (b : Bool) → MayLeaveLatency b s.version s.latency → MayLeaveLatency c s.version s.latency
    by true says b left = says
    by false says false left = left
    by false says true left = absurd (cc (sym left ∙ says))

pub writing-law : WritingLaw
writing-law s r =
    let t = readable-read s r in
    let spells = ((reading-law s t.0).0 t.1).1 in (
      λ with_room with_latency besides room latency left. (reading-law s (scene_text with_room with_latency besides s)).1 (r, text_spells s t.0 spells with_room with_latency besides room latency left),
      (reading-law s (scene_text true (says_latency s.version) (map has_beside s.frames) s)).1
          (r, text_spells s t.0 spells true (says_latency s.version) (map has_beside s.frames) (λ e. absurd (cc e)) (written_latency s spells.1.with_latency spells.1.latency_left) (written_left s.frames)),
    )

pub readable-law : ReadableLaw
readable-law s = ((λ r. readable-read s r, λ t. reads-readable t.0 s t.1), (λ r. (writing-law s r).1, λ e. reads-readable (written s) s e))
