-- Which text is which scene, said by what its lines spell; and that it is just what the reader takes.
use Rattle.std.specs.Prelude.{◌≡◌, ◌↔◌, ℕ, Bool, true, false, not, List, [], ◌∷◌, ◌++◌, map, filter, Ok, ⊤}
use Rattle.scene_model.specs.Scene.{SceneFrame, Scene}
use Rattle.scene_model.specs.Field.{split_at}
use Rattle.scene_model.specs.Grammar.{Field, is_skipped, plain_room, says_latency, scene_of, whole_language}
use Rattle.spelling_model.specs.LineSpelling.{spelled_lines}
use Rattle.spelling_model.specs.Readable.{IsReadable}

-- the fields of each line that is not skipped
abbrev pub kept_fields : List ℕ → List (List Field)
kept_fields bytes = map (split_at 32) (filter (λ line. not (is_skipped line)) (split_at 10 bytes))

-- nothing stands behind the last newline
abbrev pub IsEnded : List ℕ → Type 0
IsEnded bytes = (lines : List (List ℕ)) × (split_at 10 bytes ≡ lines ++ [] ∷ [])

-- a `room` line may be left out where the room is the plain one
abbrev pub MayLeaveRoom : Bool → Scene → Type 0
MayLeaveRoom with_room s = with_room ≡ false → s.room ≡ plain_room

-- a `latency` line stands where the version says latency, and may be left out where the latency is 1
abbrev pub MayLeaveLatency : Bool → (version latency : ℕ) → Type 0
MayLeaveLatency true version latency = says_latency version ≡ true
MayLeaveLatency false version latency = latency ≡ 1

-- one choice for each frame; a `beside` line may be left out where no line follows it
abbrev pub MayLeaveBesides : List Bool → List SceneFrame → Type 0
MayLeaveBesides [] [] = ⊤
MayLeaveBesides (b ∷ besides) (f ∷ frames) = (b ≡ false → f.beside ≡ []) × MayLeaveBesides besides frames
MayLeaveBesides _ _ = ⊥

-- the lines are those of the scene
pub record IsSpelling (s : Scene) (lines : List (List Field)) : Type 0 where
  pub with_room : Bool
  pub with_latency : Bool
  pub besides : List Bool
  pub room_left : MayLeaveRoom with_room s
  pub latency_left : MayLeaveLatency with_latency s.version s.latency
  pub besides_left : MayLeaveBesides besides s.frames
  pub spelled : lines ≡ spelled_lines with_room with_latency besides s

-- the bytes spell the scene: between skipped lines they have its lines
abbrev pub Spells : List ℕ → Scene → Type 0
Spells bytes s = IsEnded bytes × IsSpelling s (kept_fields bytes)

-- some text is read as the scene
abbrev pub IsRead : Scene → Type 0
IsRead s = (text : List ℕ) × (scene_of whole_language text ≡ Ok s)

-- bytes are read as a scene exactly where the scene is readable and they spell it
abbrev pub ReadingLaw : Type 0
ReadingLaw = (s : Scene) (bytes : List ℕ) → scene_of whole_language bytes ≡ Ok s ↔ IsReadable s × Spells bytes s

-- one text is read as one scene at most, and spells one readable scene at most
abbrev pub OneReading : Type 0
OneReading = (s t : Scene) (bytes : List ℕ)
    → (scene_of whole_language bytes ≡ Ok s → scene_of whole_language bytes ≡ Ok t → s ≡ t) × (IsReadable s → IsReadable t → Spells bytes s → Spells bytes t → s ≡ t)
