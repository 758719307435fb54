-- A layout's part that is read is spelled by its pieces with colons between them.
use Rattle.std.proofs.Common.{◌≡◌, ℕ, eqb-true, Bool, true, false, ◌==◌, cond, bytes_eq, List, [], ◌∷◌, ◌++◌, length, Ok, Err, lit<, refl, ap, sym, ◌∙◌, arith}
use Rattle.std.specs.Prelude.{codes}
use Rattle.std.specs.Fmt.{decimal}
use Rattle.std.proofs.lemmas.Slice.Eq.{bytes_eq-Decides}
use Rattle.gfx_model.specs.Vertex.{LayoutPart, attribute_part, skip_part}
use Rattle.scene_model.specs.Field.{Read, misspelt, split_at, in_part, skip_of, attributes, component_types, word_in, number_in, piece, skip_piece, attribute_piece, part_of_pieces, part_field}
use Rattle.scene_model.specs.Grammar.{Field}
use Rattle.spelling_model.specs.FieldSpelling.{attribute_word, component_word, part_spelled}
use Rattle.spelling_model.proofs.Read.{bind_ok, if_ok}
use Rattle.spelling_model.proofs.Numbers.{number_takes}
use Rattle.spelling_model.proofs.Joins.{joined_by, joined-split}
use Rattle.spelling_model.proofs.Words.{attribute_takes, component_takes}

-- ---- two or three pieces

two_joined : (ps : List (List ℕ)) → (length ps == 2) ≡ true → joined_by 58 ps ≡ piece ps 0 ++ 58 ∷ piece ps 1
two_joined (a ∷ b ∷ []) h = refl
two_joined [] h = absurd (cc h)
two_joined (a ∷ []) h = absurd (omega (arith, eqb-true 1 2 h))
two_joined (a ∷ b ∷ c ∷ ps) h = absurd (omega (arith, eqb-true _ 2 h))

three_joined : (ps : List (List ℕ)) → (length ps == 3) ≡ true → joined_by 58 ps ≡ piece ps 0 ++ 58 ∷ (piece ps 1 ++ 58 ∷ piece ps 2)
three_joined (a ∷ b ∷ c ∷ []) h = refl
three_joined [] h = absurd (cc h)
three_joined (a ∷ []) h = absurd (omega (arith, eqb-true 1 3 h))
three_joined (a ∷ b ∷ []) h = absurd (omega (arith, eqb-true 2 3 h))
three_joined (a ∷ b ∷ c ∷ d ∷ ps) h = absurd (omega (arith, eqb-true _ 3 h))

skip_takes : (ps : List (List ℕ)) (part : LayoutPart) → skip_piece ps ≡ Ok part → piece ps 0 ++ 58 ∷ piece ps 1 ≡ part_spelled part
unfolding skip_piece
skip_takes ps part e =
    let t = if_ok (bytes_eq (codes "skip") (piece ps 0)) (skip_of (piece ps 1)) misspelt part e in
    let n = bind_ok (number_in 1 255 (piece ps 1)) _ part t.1 in
    let made : skip_part n.0 ≡ part = cc n.2 in
    let word : piece ps 0 ≡ codes "skip" = sym ((bytes_eq-Decides (codes "skip") (piece ps 0)).0 t.0) in
    let number : piece ps 1 ≡ decimal n.0 = number_takes 1 255 (piece ps 1) n.0 (lit< tt) n.1 in
    (λ i. word i ++ 58 ∷ number i) ∙ ap part_spelled made

attribute_part_takes : (ps : List (List ℕ)) (part : LayoutPart) → attribute_piece ps ≡ Ok part → piece ps 0 ++ 58 ∷ (piece ps 1 ++ 58 ∷ piece ps 2) ≡ part_spelled part
unfolding attribute_piece
attribute_part_takes ps part e =
    let a = bind_ok (word_in attributes (piece ps 0)) _ part e in
    let t = bind_ok (word_in component_types (piece ps 1)) _ part a.2 in
    let n = bind_ok (number_in 1 4 (piece ps 2)) _ part t.2 in
    let made : attribute_part a.0 t.0 n.0 ≡ part = cc n.2 in
    let attribute : piece ps 0 ≡ attribute_word a.0 = attribute_takes (piece ps 0) a.0 a.1 in
    let component : piece ps 1 ≡ component_word t.0 = component_takes (piece ps 1) t.0 t.1 in
    let number : piece ps 2 ≡ decimal n.0 = number_takes 1 4 (piece ps 2) n.0 (lit< tt) n.1 in
    (λ i. attribute i ++ 58 ∷ (component i ++ 58 ∷ number i)) ∙ ap part_spelled made

pieces_take : (ps : List (List ℕ)) (part : LayoutPart) → part_of_pieces ps ≡ Ok part → joined_by 58 ps ≡ part_spelled part
pieces_take ps part e = by (length ps == 2) refl (length ps == 3) refl e
  where
    by : (t : Bool) → (length ps == 2) ≡ t → (u : Bool) → (length ps == 3) ≡ u → cond t (skip_piece ps) (cond u (attribute_piece ps) (Err misspelt)) ≡ Ok part → joined_by 58 ps ≡ part_spelled part
    by true t u h e = two_joined ps t ∙ skip_takes ps part e
    by false t true h e = three_joined ps h ∙ attribute_part_takes ps part e
    by false t false h e = absurd (cc e)

pub in_part_ok : (r : Read LayoutPart) (part : LayoutPart) → in_part r ≡ Ok part → r ≡ Ok part
in_part_ok (Ok x) part e = e
in_part_ok (Err c) part e = absurd (cc e)

pub part_takes : (f : Field) (part : LayoutPart) → part_field f ≡ Ok part → f ≡ part_spelled part
unfolding part_field
part_takes f part e = sym (joined-split 58 f) ∙ pieces_take (split_at 58 f) part (in_part_ok (part_of_pieces (split_at 58 f)) part e)
