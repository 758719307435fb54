-- Laws of dropped lines.
use Rattle.std.specs.Prelude.{◌≡◌, ◌↔◌, ℕ, ◌+◌, ◌==◌, not, List, [], ◌∷◌, ◌++◌, map, filter, length, flat_map, Option, Ok, Some, None, slice_get}
use Rattle.std.specs.List.{AllByRecursion}
use Rattle.scene_model.specs.Scene.{ResourceLine, EncoderLine, Block, SceneFrame, Scene}
use Rattle.scene_model.specs.Fold.{Progress, Recording, after_line, after_encoder_line, FramePlan, plans}
use Rattle.scene_model.specs.Output.{frame_dropped}
use Rattle.scene_model.specs.Field.{split_at}
use Rattle.scene_model.specs.Grammar.{Field, scene_of, whole_language, is_skipped}
use Rattle.spelling_model.specs.LineSpelling.{resource_fields, encoder_fields}
use Rattle.dropped_lines.specs.Reasons.{Reason, resource_reason, encoder_reason}
use Rattle.dropped_lines.specs.Numbers.{is_numbered, line_numbers}
use Rattle.dropped_lines.specs.Verdicts.{verdicts}
use Rattle.dropped_lines.specs.Dropped.{dropped_lines}

-- the fields of the lines of a frame, by their spelling
abbrev pub frame_fields : List Field → SceneFrame → List (List Field)
frame_fields names f =
    map (resource_fields names) f.before ++ (flat_map (λ (b : Block). map (encoder_fields names) b.lines) f.blocks ++ map (resource_fields names) f.beside)

-- the fields of the lines of a scene
abbrev pub scene_fields : Scene → List (List Field)
scene_fields s = flat_map (frame_fields s.names) s.frames

-- the fields of the numbered lines of a text
abbrev pub numbered_fields : List ℕ → List (List Field)
numbered_fields bytes = map (split_at 32) (filter is_numbered (split_at 10 bytes))

-- the numbered lines of a text that is a scene are the scene's lines, one for one, and each has a verdict
pub record IsNumbered (bytes : List ℕ) (s : Scene) : Type 0 where
  pub fields : numbered_fields bytes ≡ scene_fields s
  pub many : length (line_numbers bytes) ≡ length (numbered_fields bytes)
  pub judged : length (verdicts s) ≡ length (line_numbers bytes)

-- of each text that is a scene
abbrev pub NumberLaw : Type 0
NumberLaw = (bytes : List ℕ) (s : Scene) → scene_of whole_language bytes ≡ Ok s → IsNumbered bytes s

-- as many lines of a frame are listed as its note says that it dropped
abbrev pub CountLaw : Type 0
CountLaw = (bytes : List ℕ) (s : Scene) → scene_of whole_language bytes ≡ Ok s
    → (k : ℕ) (p : FramePlan) → slice_get (plans s) k ≡ Some p → length (filter (λ d. d.frame == k) (dropped_lines bytes s)) ≡ frame_dropped p

-- none is listed exactly where each note says that no line was dropped
abbrev pub SilentLaw : Type 0
SilentLaw = (bytes : List ℕ) (s : Scene) → scene_of whole_language bytes ≡ Ok s
    → (dropped_lines bytes s ≡ []) ↔ AllByRecursion (λ p. frame_dropped p ≡ 0) (plans s)

-- how many lines a reason drops: one, or none where there is none
abbrev pub dropped_for : Option Reason → ℕ
dropped_for None = 0
dropped_for (Some r) = 1

-- a line of the API thread, and one of an encoder, has a reason exactly where the folds of a scene's lines count it as dropped
pub record StepLaw : Type 0 where
  pub resource : (names : List (List ℕ)) (p : Progress) (line : ResourceLine) → (after_line names p line).dropped ≡ p.dropped + dropped_for (resource_reason names p line)
  pub encoder : (p : Progress) (r : Recording) (line : EncoderLine) → (after_encoder_line p r line).dropped ≡ r.dropped + dropped_for (encoder_reason p r line)
