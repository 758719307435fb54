-- The text of a line, field by field.
use Rattle.std.proofs.Common.{◌≡◌, ℕ, List, [], ◌∷◌, ◌++◌, codes, map, refl, ap, sym, ◌∙◌}
use Rattle.std.proofs.lemmas.List.{append_assoc}
use Rattle.scene_model.specs.Grammar.{Field}
use Rattle.spelling_model.specs.FieldSpelling.{part_spelled}
use Rattle.spelling_model.specs.Written.{line_text}
use Rattle.scene_text.specs.declared.scene.LayoutPart.{LayoutPart}
use Rattle.scene_text.specs.Seen.{part_seen}
use Rattle.scene_text.specs.Spelled.{behind}

-- what stands behind a field: a blank before each further one, and a newline at the end
abbrev pub tail_text : List Field → List ℕ
tail_text [] = codes "\n"
tail_text (f ∷ fs) = 32 ∷ (f ++ tail_text fs)

line_tail : (f : Field) (fs : List Field) → line_text (f ∷ fs) ≡ f ++ tail_text fs
line_tail f [] = refl
line_tail f (g ∷ fs) = ap (λ t. f ++ (32 ∷ t)) (line_tail g fs)

tail_behind : (fs gs : List Field) → tail_text (fs ++ gs) ≡ behind fs ++ (behind gs ++ codes "\n")
tail_behind [] [] = refl
tail_behind [] (g ∷ gs) = ap (λ x. 32 ∷ x) (ap (λ x. g ++ x) (tail_behind [] gs) ∙ sym (append_assoc g (behind gs) (codes "\n")))
tail_behind (f ∷ fs) gs = ap (λ x. 32 ∷ x) (ap (λ x. f ++ x) (tail_behind fs gs) ∙ sym (append_assoc f (behind fs) (behind gs ++ codes "\n")))

-- a line in three pieces: its word with fields, further fields, and the newline
pub line_made : (old w a b c : List ℕ) (fs gs : List Field) → a ≡ old ++ (w ++ behind fs) → b ≡ a ++ behind gs → c ≡ b ++ 10 ∷ [] → c ≡ old ++ line_text (w ∷ (fs ++ gs))
line_made old w a b c fs gs x y z =
    z ∙ ap (λ t. t ++ 10 ∷ []) (y ∙ ap (λ t. t ++ behind gs) x)
    ∙ append_assoc (old ++ (w ++ behind fs)) (behind gs) (10 ∷ [])
    ∙ append_assoc old (w ++ behind fs) (behind gs ++ 10 ∷ [])
    ∙ ap (λ t. old ++ t) (append_assoc w (behind fs) (behind gs ++ 10 ∷ []) ∙ ap (λ t. w ++ t) (sym (tail_behind fs gs)) ∙ sym (line_tail w (fs ++ gs)))

pub parts_spelled : (ps : List LayoutPart) → map (λ p. part_spelled (part_seen p)) ps ≡ map part_spelled (map part_seen ps)
parts_spelled [] = refl
parts_spelled (p ∷ ps) = ap (λ fs. part_spelled (part_seen p) ∷ fs) (parts_spelled ps)
