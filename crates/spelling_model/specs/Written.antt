-- The bytes of a scene's lines, and that they are read as the scene again.
use Rattle.std.specs.Prelude.{◌≡◌, ◌↔◌, ℕ, Bool, true, not, ◌==◌, List, [], ◌∷◌, ◌++◌, map, flat_map, length, Ok, codes}
use Rattle.scene_model.specs.Scene.{SceneFrame, Scene}
use Rattle.scene_model.specs.Grammar.{Field, says_latency, scene_of, front_of, whole_language}
use Rattle.spelling_model.specs.LineSpelling.{spelled_lines}
use Rattle.spelling_model.specs.Spelling.{MayLeaveRoom, MayLeaveLatency, MayLeaveBesides, IsRead}
use Rattle.spelling_model.specs.Readable.{IsReadable}

-- a line's fields with one blank between them, ended by a newline
abbrev pub line_text : List Field → List ℕ
line_text [] = codes "\n"
line_text (f ∷ []) = f ++ codes "\n"
line_text (f ∷ g ∷ fs) = f ++ (codes " " ++ line_text (g ∷ fs))

-- the text of a scene, with or without its `room` line, its `latency` line and its `beside` lines
abbrev pub scene_text : (with_room with_latency : Bool) → List Bool → Scene → List ℕ
scene_text with_room with_latency besides s = flat_map line_text (spelled_lines with_room with_latency besides s)

-- whether lines stand beside a frame's drawing
abbrev pub has_beside : SceneFrame → Bool
has_beside f = not (length f.beside == 0)

-- the text that is written: the `room` line always, `latency` wherever it may stand, `beside` only where lines follow it, and no skipped lines
abbrev pub written : Scene → List ℕ
written s = scene_text true (says_latency s.version) (map has_beside s.frames) s

-- each text of a readable scene is read as that scene, the written one too
abbrev pub WritingLaw : Type 0
WritingLaw = (s : Scene) → IsReadable s
    → ((with_room with_latency : Bool) (besides : List Bool) → MayLeaveRoom with_room s → MayLeaveLatency with_latency s.version s.latency → MayLeaveBesides besides s.frames → scene_of whole_language (scene_text with_room with_latency besides s) ≡ Ok s)
    × (scene_of whole_language (written s) ≡ Ok s)

-- what is written of a readable scene is a front of each text that begins with it
abbrev pub WrittenFrontLaw : Type 0
WrittenFrontLaw = (s : Scene) (rest : List ℕ) → IsReadable s → front_of whole_language (written s ++ rest) ≡ Ok (s, length (written s))

-- a scene is readable exactly where some text is read as it, and exactly where what is written of it is: so whether it is can be computed
abbrev pub ReadableLaw : Type 0
ReadableLaw = (s : Scene) → (IsReadable s ↔ IsRead s) × (IsReadable s ↔ (scene_of whole_language (written s) ≡ Ok s))
