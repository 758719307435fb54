-- The text of each part of a scene.
use Rattle.std.specs.Prelude.{ℕ, List, [], ◌∷◌, ◌++◌, flat_map, codes}
use Rattle.std.specs.Fmt.{decimal}
use Rattle.scene_model.specs.Grammar.{Field}
use Rattle.spelling_model.specs.LineSpelling.{resource_fields, encoder_fields}
use Rattle.spelling_model.specs.Written.{line_text}
use Rattle.scene_text.specs.declared.scene.ResLine.{ResLine}
use Rattle.scene_text.specs.declared.scene.EncLine.{EncLine}
use Rattle.scene_text.specs.declared.scene.EncBlock.{EncBlock}
use Rattle.scene_text.specs.declared.scene.SceneFrame.{SceneFrame}
use Rattle.scene_text.specs.Seen.{resource_line_seen, encoder_line_seen}

-- the text of a line of the API thread
abbrev pub resource_text : List Field → ResLine → List ℕ
resource_text names l = line_text (resource_fields names (resource_line_seen l))

-- the text of an encoder's line
abbrev pub encoder_text : List Field → EncLine → List ℕ
encoder_text names l = line_text (encoder_fields names (encoder_line_seen l))

-- the text of a block
abbrev pub block_text : List Field → EncBlock → List ℕ
block_text names b = line_text (codes "encoder" ∷ decimal b.encoder ∷ []) ++ flat_map (encoder_text names) b.lines

-- no line stands beside the blocks where there is none
abbrev pub beside_text : List Field → List ResLine → List ℕ
beside_text names [] = []
beside_text names (l ∷ ls) = line_text (codes "beside" ∷ []) ++ flat_map (resource_text names) (l ∷ ls)

-- the text of a frame
abbrev pub frame_text : List Field → SceneFrame → List ℕ
frame_text names f =
    line_text (codes "frame" ∷ []) ++ (flat_map (resource_text names) f.before ++ (flat_map (block_text names) f.blocks ++ beside_text names f.beside))
