-- Parts of layouts, one after another.
use Rattle.std.proofs.Common.{◌≡◌, ◌≢◌, ◌==◌, if◌then◌else◌, Bool, ℕ, zero, suc, ◌+◌, ◌<◌, List, [], ◌∷◌, ◌++◌, length, take, slice_index_or, Option, Some, None, refl, sym, ap, ◌∙◌, arith}
use Rattle.std.proofs.lemmas.List.{take_more}
use Rattle.std.proofs.lemmas.Bool.{ne_eqb}
use Rattle.gfx_model.specs.Vertex.{Attribute, ComponentType, LayoutPart, attribute_part, skip_part}
use Rattle.c_words.specs.declared.layouts.Part.{Part}
use Rattle.c_words.specs.Layouts.{attribute_of_number, attribute_with, component_of_number, part_of, parts_of, with_part}

-- bytes that are passed over
pub part_skips : (p : Part) → p.attribute ≡ 255 → part_of p ≡ Some (skip_part p.count)
part_skips p e = ap (λ (n : ℕ). if n == 255 then Some (skip_part p.count) else attribute_with (attribute_of_number p.attribute) (component_of_number p.component) p.count) e

-- an attribute
pub part_is : (p : Part) (a : Attribute) (t : ComponentType) → p.attribute ≢ 255 → Some a ≡ attribute_of_number p.attribute → Some t ≡ component_of_number p.component → part_of p ≡ Some (attribute_part a t p.count)
part_is p a t ne is of =
    ap (λ (b : Bool). if b then Some (skip_part p.count) else attribute_with (attribute_of_number p.attribute) (component_of_number p.component) p.count) (ne_eqb p.attribute 255 ne)
    ∙ (λ i. attribute_with (sym is i) (sym of i) p.count)

with_snoc : (o : Option LayoutPart) (q r : Option (List LayoutPart)) (p : LayoutPart) (ps : List LayoutPart) → ((qs : List LayoutPart) → q ≡ Some qs → r ≡ Some (qs ++ p ∷ [])) → with_part o q ≡ Some ps → with_part o r ≡ Some (ps ++ p ∷ [])
with_snoc (Some a) (Some qs) r p ps tail e = let is : a ∷ qs ≡ ps = cc e in ap (with_part (Some a)) (tail qs refl) ∙ ap (λ l. Some (l ++ p ∷ [])) is
with_snoc (Some a) None r p ps tail e = absurd (cc e)
with_snoc None q r p ps tail e = absurd (cc e)

parts_snoc : (xs : List Part) (x : Part) (ps : List LayoutPart) (p : LayoutPart) → parts_of xs ≡ Some ps → part_of x ≡ Some p → parts_of (xs ++ x ∷ []) ≡ Some (ps ++ p ∷ [])
parts_snoc [] x ps p e f = let none : [] ≡ ps = cc e in ap (λ o. with_part o (Some [])) f ∙ ap (λ l. Some (l ++ p ∷ [])) none
parts_snoc (y ∷ ys) x ps p e f = with_snoc (part_of y) (parts_of ys) (parts_of (ys ++ x ∷ [])) p ps (λ qs g. parts_snoc ys x qs p g f) e

-- one part more
pub parts_more : (xs : List Part) (i : ℕ) (d : Part) (ps : List LayoutPart) (p : LayoutPart) → i < length xs → parts_of (take i xs) ≡ Some ps → part_of (slice_index_or xs i d) ≡ Some p → parts_of (take (i + 1) xs) ≡ Some (ps ++ p ∷ [])
parts_more xs i d ps p within e f = ap parts_of (take_more xs i d within) ∙ parts_snoc (take i xs) (slice_index_or xs i d) ps p e f

with_none : (o : Option LayoutPart) → with_part o None ≡ None
with_none (Some a) = refl
with_none None = refl

-- a part whose numbers stand for nothing
pub none_at : (xs : List Part) (i : ℕ) (d : Part) → i < length xs → part_of (slice_index_or xs i d) ≡ None → parts_of xs ≡ None
none_at [] i d within e = absurd (omega (arith, within))
none_at (x ∷ xs) zero d within e = ap (λ o. with_part o (parts_of xs)) e
none_at (x ∷ xs) (suc i) d within e = ap (with_part (part_of x)) (none_at xs i d (omega (arith, within)) e) ∙ with_none (part_of x)
