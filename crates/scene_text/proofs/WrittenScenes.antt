-- The text of a scene's parts is the text of its lines.
use Rattle.std.proofs.Common.{◌≡◌, ℕ, Bool, true, false, not, ◌==◌, List, [], ◌∷◌, ◌++◌, length, map, flat_map, codes, refl, ap, sym, ◌∙◌, arith}
use Rattle.std.proofs.lemmas.Bool.{ne_eqb}
use Rattle.std.proofs.lemmas.List.{append_assoc, append-nil}
use Rattle.std.proofs.lemmas.List.Folds.{flat_map-map}
use Rattle.std.proofs.lemmas.Grind.{flat_map-append}
use Rattle.std.specs.Fmt.{decimal}
use Rattle.scene_model.specs.Grammar.{Field, says_latency}
use Rattle.spelling_model.specs.LineSpelling.{resource_fields, encoder_fields, block_lines, beside_lines, frame_lines, frames_lines, head_lines}
use Rattle.spelling_model.specs.Written.{line_text, has_beside, written}
use Rattle.scene_text.specs.declared.scene.ResLine.{ResLine}
use Rattle.scene_text.specs.declared.scene.EncLine.{EncLine}
use Rattle.scene_text.specs.declared.scene.EncBlock.{EncBlock}
use Rattle.scene_text.specs.declared.scene.SceneFrame.{SceneFrame}
use Rattle.scene_text.specs.declared.scene.Scene.{Scene}
use Rattle.scene_text.specs.Seen.{resource_line_seen, encoder_line_seen, block_seen, frame_seen, name_seen, scene_seen}
use Rattle.scene_text.specs.WrittenParts.{resource_text, encoder_text, block_text, beside_text, frame_text}

resources : (names : List Field) (ls : List ResLine) → flat_map line_text (map (resource_fields names) (map resource_line_seen ls)) ≡ flat_map (resource_text names) ls
resources names ls = flat_map-map line_text (resource_fields names) (map resource_line_seen ls) ∙ flat_map-map (λ l. line_text (resource_fields names l)) resource_line_seen ls

encoder_lines : (names : List Field) (ls : List EncLine) → flat_map line_text (map (encoder_fields names) (map encoder_line_seen ls)) ≡ flat_map (encoder_text names) ls
encoder_lines names ls = flat_map-map line_text (encoder_fields names) (map encoder_line_seen ls) ∙ flat_map-map (λ l. line_text (encoder_fields names l)) encoder_line_seen ls

block : (names : List Field) (b : EncBlock) → flat_map line_text (block_lines names (block_seen b)) ≡ block_text names b
block names b = ap (λ t. line_text (codes "encoder" ∷ decimal b.encoder ∷ []) ++ t) (encoder_lines names b.lines)

blocks : (names : List Field) (bs : List EncBlock) → flat_map line_text (flat_map (block_lines names) (map block_seen bs)) ≡ flat_map (block_text names) bs
blocks names [] = refl
blocks names (b ∷ bs) =
    flat_map-append line_text (block_lines names (block_seen b)) (flat_map (block_lines names) (map block_seen bs))
    ∙ ap (λ t. t ++ flat_map line_text (flat_map (block_lines names) (map block_seen bs))) (block names b)
    ∙ ap (λ t. block_text names b ++ t) (blocks names bs)

-- the lines beside the blocks have their own line exactly where there are any
beside : (names : List Field) (ls : List ResLine) → flat_map line_text (beside_lines names (not (length (map resource_line_seen ls) == 0)) (map resource_line_seen ls)) ≡ beside_text names ls
beside names [] = refl
beside names (l ∷ ls) = by (length (map resource_line_seen (l ∷ ls)) == 0) (ne_eqb (length (map resource_line_seen (l ∷ ls))) 0 (λ e. omega arith))
  where
    by : (b : Bool) → b ≡ false → flat_map line_text (beside_lines names (not b) (map resource_line_seen (l ∷ ls))) ≡ beside_text names (l ∷ ls)
    by true e = absurd (cc e)
    by false e = ap (λ t. line_text (codes "beside" ∷ []) ++ t) (resources names (l ∷ ls))

frame : (names : List Field) (f : SceneFrame) → flat_map line_text (frame_lines names (has_beside (frame_seen f)) (frame_seen f)) ≡ frame_text names f
frame names f = ap (λ t. line_text (codes "frame" ∷ []) ++ t)
    (flat_map-append line_text (map (resource_fields names) (map resource_line_seen f.before)) (flat_map (block_lines names) (map block_seen f.blocks) ++ beside_lines names (has_beside (frame_seen f)) (map resource_line_seen f.beside))
    ∙ ap (λ t. t ++ flat_map line_text (flat_map (block_lines names) (map block_seen f.blocks) ++ beside_lines names (has_beside (frame_seen f)) (map resource_line_seen f.beside))) (resources names f.before)
    ∙ ap (λ t. flat_map (resource_text names) f.before ++ t)
    (flat_map-append line_text (flat_map (block_lines names) (map block_seen f.blocks)) (beside_lines names (has_beside (frame_seen f)) (map resource_line_seen f.beside))
    ∙ ap (λ t. t ++ flat_map line_text (beside_lines names (has_beside (frame_seen f)) (map resource_line_seen f.beside))) (blocks names f.blocks)
    ∙ ap (λ t. flat_map (block_text names) f.blocks ++ t) (beside names f.beside)))

frames : (names : List Field) (fs : List SceneFrame) → flat_map line_text (frames_lines names (map has_beside (map frame_seen fs)) (map frame_seen fs)) ≡ flat_map (frame_text names) fs
frames names [] = refl
frames names (f ∷ fs) =
    flat_map-append line_text (frame_lines names (has_beside (frame_seen f)) (frame_seen f)) (frames_lines names (map has_beside (map frame_seen fs)) (map frame_seen fs))
    ∙ ap (λ t. t ++ flat_map line_text (frames_lines names (map has_beside (map frame_seen fs)) (map frame_seen fs))) (frame names f)
    ∙ ap (λ t. frame_text names f ++ t) (frames names fs)

-- five pieces behind a text
pub five_pieces : (old t u v w x a b c d e : List ℕ) → t ≡ old ++ a → u ≡ t ++ b → v ≡ u ++ c → w ≡ v ++ d → x ≡ w ++ e → x ≡ old ++ (a ++ (b ++ (c ++ (d ++ e))))
five_pieces old t u v w x a b c d e f g h k l =
    l ∙ ap (λ y. y ++ e) (k ∙ ap (λ y. y ++ d) (h ∙ ap (λ y. y ++ c) (g ∙ ap (λ y. y ++ b) f))) ∙ regroup
  where
    regroup : ((((old ++ a) ++ b) ++ c) ++ d) ++ e ≡ old ++ (a ++ (b ++ (c ++ (d ++ e))))
    regroup = simp append_assoc

-- the head, the frames and the last line are the whole text
pub whole_text : (s : Scene) (t u v : List ℕ) → t ≡ flat_map line_text (head_lines true (says_latency s.version) (scene_seen s)) → u ≡ t ++ flat_map (frame_text (map name_seen s.names)) s.frames → v ≡ u ++ line_text (codes "done" ∷ []) → v ≡ written (scene_seen s)
whole_text s t u v e f g =
    let head = head_lines true (says_latency s.version) (scene_seen s) in
    let middle = frames_lines (map name_seen s.names) (map has_beside (map frame_seen s.frames)) (map frame_seen s.frames) in
    let last = line_text (codes "done" ∷ []) in
    g ∙ ap (λ x. x ++ last) (f ∙ ap (λ x. x ++ flat_map (frame_text (map name_seen s.names)) s.frames) e)
    ∙ append_assoc (flat_map line_text head) (flat_map (frame_text (map name_seen s.names)) s.frames) last
    ∙ ap (λ x. flat_map line_text head ++ x) (ap (λ x. x ++ last) (sym (frames (map name_seen s.names) s.frames)) ∙ ap (λ x. flat_map line_text middle ++ x) (sym (append-nil last)) ∙ sym (flat_map-append line_text middle ((codes "done" ∷ []) ∷ [])))
    ∙ sym (flat_map-append line_text head (middle ++ (codes "done" ∷ []) ∷ []))
