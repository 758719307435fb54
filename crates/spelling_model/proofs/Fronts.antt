-- What is written of a scene ends with its own last line, and so it is a front of each text that begins with it.
use Rattle.std.proofs.Common.{◌≡◌, ℕ, true, List, [], ◌∷◌, ◌++◌, map, length, Ok, ap, sym, subst, ◌∙◌, append_assoc}
use Rattle.std.specs.Prelude.{codes, flat_map}
use Rattle.std.specs.Fmt.{decimal}
use Rattle.std.proofs.lemmas.List.{append-nil}
use Rattle.std.proofs.lemmas.Grind.{flat_map-append}
use Rattle.scene_model.specs.Scene.{Scene}
use Rattle.scene_model.specs.Grammar.{Field, says_latency, scene_of, front_of, whole_language}
use Rattle.scene_model.proofs.FrontLaws.{front-law}
use Rattle.spelling_model.specs.LineSpelling.{room_lines, latency_lines, head_lines, frames_lines}
use Rattle.spelling_model.specs.Written.{line_text, has_beside, written, WrittenFrontLaw}
use Rattle.spelling_model.proofs.Joins.{joined_by}
use Rattle.spelling_model.proofs.LineTexts.{line_joined}
use Rattle.spelling_model.proofs.Writing.{writing-law}

-- a text ends with a newline
abbrev EndsLine : List ℕ → Type 0
EndsLine xs = (front : List ℕ) × (xs ≡ front ++ 10 ∷ [])

lines_end : (fs : List Field) (lines : List (List Field)) → EndsLine (flat_map line_text (fs ∷ lines))
lines_end fs [] = (joined_by 32 fs, append-nil (line_text fs) ∙ line_joined fs)
lines_end fs (g ∷ lines) =
    let rest = lines_end g lines in
    (line_text fs ++ rest.0, ap (λ k. line_text fs ++ k) rest.1 ∙ sym (append_assoc (line_text fs) rest.0 (10 ∷ [])))

-- what is written is the lines before the last one, and that one
ends_with_done : (s : Scene) → (front : List ℕ) × (written s ≡ front ++ codes "\ndone\n")
ends_with_done s =
    let head = head_lines true (says_latency s.version) s in
    let frames = frames_lines s.names (map has_beside s.frames) s.frames in
    let size = codes "size" ∷ decimal s.width ∷ decimal s.height ∷ [] in
    let encoders = codes "encoders" ∷ decimal s.encoders ∷ [] in
    let before = lines_end (codes "scene" ∷ decimal s.version ∷ []) (size ∷ encoders ∷ ((room_lines true s.room ++ latency_lines (says_latency s.version) s.latency) ++ frames)) in (
      before.0,
      ap (flat_map line_text) (sym (append_assoc head frames ((codes "done" ∷ []) ∷ [])))
          ∙ flat_map-append line_text (head ++ frames) ((codes "done" ∷ []) ∷ [])
          ∙ ap (λ k. k ++ codes "done\n") before.1
          ∙ append_assoc before.0 (10 ∷ []) (codes "done\n"),
    )

pub written-front-law : WrittenFrontLaw
written-front-law s rest readable =
    let t = ends_with_done s in
    let read : scene_of whole_language (t.0 ++ codes "\ndone\n") ≡ Ok s = ap (scene_of whole_language) (sym t.1) ∙ (writing-law s readable).1 in
    subst (λ k. front_of whole_language (k ++ rest) ≡ Ok (s, length k)) (sym t.1) (front-law whole_language s t.0 rest read)
