-- Where a reading stands: the lines read so far are the spelled lines of what has been read so far.
use Rattle.std.proofs.Common.{◌≡◌, Bool, true, false, List, [], ◌∷◌, ◌++◌, map, refl, ap, subst, sym, ◌∙◌, append_assoc}
use Rattle.std.specs.Prelude.{flat_map, codes, ℕ}
use Rattle.std.specs.Fmt.{decimal}
use Rattle.std.proofs.lemmas.List.{append-nil, map-append}
use Rattle.std.proofs.lemmas.Grind.{flat_map-append}
use Rattle.scene_model.specs.Scene.{ResourceLine, EncoderLine, Block, SceneFrame}
use Rattle.scene_model.specs.Field.{BoundName}
use Rattle.scene_model.specs.Grammar.{Field, Stage, at_front, at_size, at_encoders, at_room, at_latency, at_first_frame, in_before, in_block, in_beside, at_end, Reading, plain_room, says_latency, empty_frame, with_new_frame, with_block, with_line, with_encoder_line, with_before_line, with_beside_line, on_last, scene_read}
use Rattle.spelling_model.specs.LineSpelling.{resource_fields, encoder_fields, block_lines, beside_lines, frame_lines, frames_lines, head_lines}
use Rattle.spelling_model.specs.Spelling.{MayLeaveRoom, MayLeaveLatency, MayLeaveBesides}

-- in front of the frames: the lines, no frame, the plain room, and a latency of 1
abbrev pub AtHead : List (List Field) → List (List Field) → Reading → Type 0
AtHead expected p r = (p ≡ expected) × (r.frames ≡ []) × (r.room ≡ plain_room) × (r.latency ≡ 1)

-- the lines up to the end of a frame
pub record Closed (all : List Field) (p : List (List Field)) (r : Reading) : Type 0 where
  pub with_room : Bool
  pub with_latency : Bool
  pub besides : List Bool
  pub room_left : MayLeaveRoom with_room (scene_read r)
  pub latency_left : MayLeaveLatency with_latency r.version r.latency
  pub besides_left : MayLeaveBesides besides r.frames
  pub lines : p ≡ head_lines with_room with_latency (scene_read r) ++ frames_lines all besides r.frames

-- the lines up to a place within a last frame
pub record Open (all : List Field) (beside : Bool) (f : SceneFrame) (p : List (List Field)) (r : Reading) : Type 0 where
  pub with_room : Bool
  pub with_latency : Bool
  pub besides : List Bool
  pub closed : List SceneFrame
  pub room_left : MayLeaveRoom with_room (scene_read r)
  pub latency_left : MayLeaveLatency with_latency r.version r.latency
  pub besides_left : MayLeaveBesides besides closed
  pub frames : r.frames ≡ closed ++ f ∷ []
  pub lines : p ≡ head_lines with_room with_latency (scene_read r) ++ (frames_lines all besides closed ++ frame_lines all beside f)

abbrev pub HasLast : List Block → Type 0
HasLast blocks = (front : List Block) × (b : Block) × (blocks ≡ front ++ b ∷ [])

abbrev pub scene_line : ℕ → List Field
scene_line version = codes "scene" ∷ decimal version ∷ []

abbrev pub size_line : ℕ → ℕ → List Field
size_line w h = codes "size" ∷ decimal w ∷ decimal h ∷ []

abbrev pub encoders_line : ℕ → List Field
encoders_line n = codes "encoders" ∷ decimal n ∷ []

-- the lines p, read to r, are what r spells, as far as its stage says
abbrev pub SoFar : List Field → List (List Field) → Reading → Stage → Type 0
SoFar all p r at_front = AtHead [] p r
SoFar all p r at_size = AtHead (scene_line r.version ∷ []) p r
SoFar all p r at_encoders = AtHead (scene_line r.version ∷ size_line r.width r.height ∷ []) p r
SoFar all p r at_room = AtHead (scene_line r.version ∷ size_line r.width r.height ∷ encoders_line r.encoders ∷ []) p r
SoFar all p r at_latency = (p ≡ head_lines true false (scene_read r)) × (r.frames ≡ []) × (r.latency ≡ 1)
SoFar all p r at_first_frame = (with_room : Bool) × (p ≡ head_lines with_room true (scene_read r)) × (r.frames ≡ []) × MayLeaveRoom with_room (scene_read r) × (says_latency r.version ≡ true)
SoFar all p r in_before = (f : SceneFrame) × Open all false f p r × (f.blocks ≡ []) × (f.beside ≡ [])
SoFar all p r in_block = (f : SceneFrame) × Open all false f p r × HasLast f.blocks × (f.beside ≡ [])
SoFar all p r in_beside = (f : SceneFrame) × Open all true f p r
SoFar all p r at_end = (q : List (List Field)) × Closed all q r × (p ≡ q ++ (codes "done" ∷ []) ∷ [])

-- ---- the last element

pub on_last-append : {A : Type 0} (g : A → A) (front : List A) (x : A) → on_last g (front ++ x ∷ []) ≡ front ++ g x ∷ []
on_last-append g [] x = refl
on_last-append g (y ∷ []) x = refl
on_last-append g (y ∷ z ∷ front) x = ap (λ k. y ∷ k) (on_last-append g (z ∷ front) x)

-- ---- a frame is closed

left_more : (bs : List Bool) (fs : List SceneFrame) (b : Bool) (f : SceneFrame) → MayLeaveBesides bs fs → (b ≡ false → f.beside ≡ []) → MayLeaveBesides (bs ++ b ∷ []) (fs ++ f ∷ [])
left_more [] [] b f l h = (h, tt)
left_more [] (g ∷ fs) b f l h = absurd l
left_more (c ∷ bs) [] b f l h = absurd l
left_more (c ∷ bs) (g ∷ fs) b f l h = (l.0, left_more bs fs b f l.1 h)

frames_more : (all : List Field) (bs : List Bool) (fs : List SceneFrame) (b : Bool) (f : SceneFrame) → MayLeaveBesides bs fs → frames_lines all (bs ++ b ∷ []) (fs ++ f ∷ []) ≡ frames_lines all bs fs ++ frame_lines all b f
frames_more all [] [] b f l = append-nil (frame_lines all b f)
frames_more all [] (g ∷ fs) b f l = absurd l
frames_more all (c ∷ bs) [] b f l = absurd l
frames_more all (c ∷ bs) (g ∷ fs) b f l = ap (λ k. frame_lines all c g ++ k) (frames_more all bs fs b f l.1) ∙ sym (append_assoc (frame_lines all c g) (frames_lines all bs fs) (frame_lines all b f))

pub closing : (all : List Field) (beside : Bool) (f : SceneFrame) (p : List (List Field)) (r : Reading) → Open all beside f p r → (beside ≡ false → f.beside ≡ []) → Closed all p r
closing all beside f p r o h = record {
  with_room = o.with_room;
  with_latency = o.with_latency;
  besides = o.besides ++ beside ∷ [];
  room_left = o.room_left;
  latency_left = o.latency_left;
  besides_left = subst (MayLeaveBesides (o.besides ++ beside ∷ [])) (sym o.frames) (left_more o.besides o.closed beside f o.besides_left h);
  lines =
      o.lines
      ∙ ap (λ k. head_lines o.with_room o.with_latency (scene_read r) ++ k) (sym (frames_more all o.besides o.closed beside f o.besides_left))
      ∙ ap (λ k. head_lines o.with_room o.with_latency (scene_read r) ++ frames_lines all (o.besides ++ beside ∷ []) k) (sym o.frames);
}

-- ---- a frame is opened

pub opening : (all : List Field) (p : List (List Field)) (r : Reading) → Closed all p r → Open all false empty_frame (p ++ (codes "frame" ∷ []) ∷ []) (with_new_frame r)
opening all p r c = record {
  with_room = c.with_room;
  with_latency = c.with_latency;
  besides = c.besides;
  closed = r.frames;
  room_left = c.room_left;
  latency_left = c.latency_left;
  besides_left = c.besides_left;
  frames = refl;
  lines = ap (λ k. k ++ (codes "frame" ∷ []) ∷ []) c.lines ∙ append_assoc (head_lines c.with_room c.with_latency (scene_read r)) (frames_lines all c.besides r.frames) ((codes "frame" ∷ []) ∷ []);
}

-- ---- a frame has a line more

-- the same reading with other names, frames and stage
abbrev pub moved : Reading → Stage → List BoundName → List SceneFrame → Reading
moved r stage names frames = record r { stage = stage; names = names; frames = frames }

pub open_more : (all : List Field) (beside later : Bool) (f g : SceneFrame) (p : List (List Field)) (fs : List Field) (r : Reading) (stage : Stage) (names : List BoundName) (frames : List SceneFrame) (o : Open all beside f p r)
    → frames ≡ o.closed ++ g ∷ [] → frame_lines all later g ≡ frame_lines all beside f ++ fs ∷ [] → Open all later g (p ++ fs ∷ []) (moved r stage names frames)
open_more all beside later f g p fs r stage names frames o h e = record {
  with_room = o.with_room;
  with_latency = o.with_latency;
  besides = o.besides;
  closed = o.closed;
  room_left = o.room_left;
  latency_left = o.latency_left;
  besides_left = o.besides_left;
  frames = h;
  lines =
      ap (λ k. k ++ fs ∷ []) o.lines
      ∙ append_assoc (head_lines o.with_room o.with_latency (scene_read r)) (frames_lines all o.besides o.closed ++ frame_lines all beside f) (fs ∷ [])
      ∙ ap (λ k. head_lines o.with_room o.with_latency (scene_read r) ++ k) (append_assoc (frames_lines all o.besides o.closed) (frame_lines all beside f) (fs ∷ []) ∙ ap (λ k. frames_lines all o.besides o.closed ++ k) (sym e));
}

-- what is added behind a frame's last part is added behind its lines
end_more : (first : List Field) (before blocks xs ys more : List (List Field)) → ys ≡ xs ++ more → first ∷ (before ++ (blocks ++ ys)) ≡ (first ∷ (before ++ (blocks ++ xs))) ++ more
end_more first before blocks xs ys more e =
    ap (λ k. first ∷ (before ++ (blocks ++ k))) e
    ∙ ap (λ k. first ∷ (before ++ k)) (sym (append_assoc blocks xs more))
    ∙ ap (λ k. first ∷ k) (sym (append_assoc before (blocks ++ xs) more))

blocks_more : (first : List Field) (before xs ys more : List (List Field)) → ys ≡ xs ++ more → first ∷ (before ++ (ys ++ [])) ≡ (first ∷ (before ++ (xs ++ []))) ++ more
blocks_more first before xs ys more e =
    ap (λ k. first ∷ (before ++ k)) (append-nil ys ∙ e)
    ∙ ap (λ k. first ∷ k) (sym (append_assoc before xs more))
    ∙ ap (λ k. (first ∷ (before ++ k)) ++ more) (sym (append-nil xs))

pub before_more : (all : List Field) (f : SceneFrame) (l : ResourceLine) → f.blocks ≡ [] → frame_lines all false (with_before_line l f) ≡ frame_lines all false f ++ resource_fields all l ∷ []
before_more all f l none =
    let first = codes "frame" ∷ [] in
    let more = map-append (resource_fields all) f.before (l ∷ []) in
    ap (λ bs. first ∷ (map (resource_fields all) (f.before ++ l ∷ []) ++ (flat_map (block_lines all) bs ++ []))) none
    ∙ ap (λ k. first ∷ k) (append-nil (map (resource_fields all) (f.before ++ l ∷ [])) ∙ more)
    ∙ ap (λ k. (first ∷ k) ++ resource_fields all l ∷ []) (sym (append-nil (map (resource_fields all) f.before)))
    ∙ ap (λ bs. (first ∷ (map (resource_fields all) f.before ++ (flat_map (block_lines all) bs ++ []))) ++ resource_fields all l ∷ []) (sym none)

pub block_more : (all : List Field) (f : SceneFrame) (e : ℕ) → frame_lines all false (with_block e f) ≡ frame_lines all false f ++ (codes "encoder" ∷ decimal e ∷ []) ∷ []
block_more all f e =
    blocks_more (codes "frame" ∷ []) (map (resource_fields all) f.before) (flat_map (block_lines all) f.blocks) (flat_map (block_lines all) (f.blocks ++ record { encoder = e; lines = [] } ∷ [])) ((codes "encoder" ∷ decimal e ∷ []) ∷ [])
    (flat_map-append (block_lines all) f.blocks (record { encoder = e; lines = [] } ∷ []))

last_block_more : (all : List Field) (l : EncoderLine) (front : List Block) (b : Block) → flat_map (block_lines all) (front ++ with_line l b ∷ []) ≡ flat_map (block_lines all) (front ++ b ∷ []) ++ encoder_fields all l ∷ []
last_block_more all l front b =
    let head = codes "encoder" ∷ decimal b.encoder ∷ [] in
    let own = map-append (encoder_fields all) b.lines (l ∷ []) in
    flat_map-append (block_lines all) front (with_line l b ∷ [])
    ∙ ap (λ k. flat_map (block_lines all) front ++ k) (append-nil (block_lines all (with_line l b)) ∙ ap (λ k. head ∷ k) own)
    ∙ sym (append_assoc (flat_map (block_lines all) front) (block_lines all b) (encoder_fields all l ∷ []))
    ∙ ap (λ k. (flat_map (block_lines all) front ++ k) ++ encoder_fields all l ∷ []) (sym (append-nil (block_lines all b)))
    ∙ ap (λ k. k ++ encoder_fields all l ∷ []) (sym (flat_map-append (block_lines all) front (b ∷ [])))

pub encoder_line_more : (all : List Field) (f : SceneFrame) (l : EncoderLine) → HasLast f.blocks → frame_lines all false (with_encoder_line l f) ≡ frame_lines all false f ++ encoder_fields all l ∷ []
encoder_line_more all f l last =
    blocks_more (codes "frame" ∷ []) (map (resource_fields all) f.before) (flat_map (block_lines all) f.blocks) (flat_map (block_lines all) (on_last (with_line l) f.blocks)) (encoder_fields all l ∷ [])
    (ap (λ bs. flat_map (block_lines all) (on_last (with_line l) bs)) last.2 ∙ ap (flat_map (block_lines all)) (on_last-append (with_line l) last.0 last.1) ∙ last_block_more all l last.0 last.1
    ∙ ap (λ bs. flat_map (block_lines all) bs ++ encoder_fields all l ∷ []) (sym last.2))

pub last_kept : (f : SceneFrame) (l : EncoderLine) → HasLast f.blocks → HasLast (with_encoder_line l f).blocks
last_kept f l last = (last.0, with_line l last.1, ap (on_last (with_line l)) last.2 ∙ on_last-append (with_line l) last.0 last.1)

pub beside_opens : (all : List Field) (f : SceneFrame) → f.beside ≡ [] → frame_lines all true f ≡ frame_lines all false f ++ (codes "beside" ∷ []) ∷ []
beside_opens all f none =
    end_more (codes "frame" ∷ []) (map (resource_fields all) f.before) (flat_map (block_lines all) f.blocks) [] (beside_lines all true f.beside) ((codes "beside" ∷ []) ∷ [])
    (ap (λ k. (codes "beside" ∷ []) ∷ map (resource_fields all) k) none)

pub beside_more : (all : List Field) (f : SceneFrame) (l : ResourceLine) → frame_lines all true (with_beside_line l f) ≡ frame_lines all true f ++ resource_fields all l ∷ []
beside_more all f l =
    end_more (codes "frame" ∷ []) (map (resource_fields all) f.before) (flat_map (block_lines all) f.blocks) (beside_lines all true f.beside) (beside_lines all true (f.beside ++ l ∷ [])) (resource_fields all l ∷ [])
    (ap (λ k. (codes "beside" ∷ []) ∷ k) (map-append (resource_fields all) f.beside (l ∷ [])))
