-- Lists of attributes: one attribute more, look-ups, and why there are at most seven.
use Rattle.std.proofs.Common.{◌≡◌, ℕ, suc, ◌+◌, ◌≤◌, Bool, true, false, cond, List, [], ◌∷◌, ◌++◌, length, Option, Some, None, refl, sym, ap, ◌∙◌, arith, eqb}
use Rattle.std.specs.Prelude.{not, ◌&&◌, ◌==◌, nat_le, is_none, is_some, option_map, if◌then◌else◌}
use Rattle.gfx_model.specs.Vertex.{Attribute, position_attribute, normal_attribute, tangent_attribute, color0_attribute, color1_attribute, texcoord0_attribute, texcoord1_attribute, PlacedAttribute, attribute_number, is_absent, has_good_attributes, find_attribute}
use Rattle.vertex_layout.specs.declared.attributes.PlacedAttr.{PlacedAttr}
use Rattle.vertex_layout.specs.Placed.{placed_seen, is_addable}

-- ---- one attribute more

and_true : (b : Bool) → (b && true) ≡ b
and_true true = refl
and_true false = refl

and_assoc : (a b c : Bool) → (a && (b && c)) ≡ ((a && b) && c)
and_assoc true b c = refl
and_assoc false b c = refl

shuffle : (g b n h c d : Bool) → ((g && (b && n)) && (h && (c && d))) ≡ (((g && b) && h) && (c && (n && d)))
shuffle false b n h c d = refl
shuffle true false n h c d = refl
shuffle true true true h c d = refl
shuffle true true false true true d = refl
shuffle true true false true false d = refl
shuffle true true false false c d = refl

eqb_turned : (m n : ℕ) → eqb m n ≡ eqb n m
eqb_turned m n = grind arith

absent_more : (b : Attribute) (ps : List PlacedAttribute) (a : PlacedAttribute) → is_absent b (ps ++ a ∷ []) ≡ (is_absent b ps && not (attribute_number a.attribute == attribute_number b))
absent_more b [] a = and_true (not (attribute_number b == attribute_number a.attribute)) ∙ ap not (eqb_turned (attribute_number b) (attribute_number a.attribute))
absent_more b (p ∷ ps) a =
    ap (λ r. not (attribute_number b == attribute_number p.attribute) && r) (absent_more b ps a)
    ∙ and_assoc (not (attribute_number b == attribute_number p.attribute)) (is_absent b ps) (not (attribute_number a.attribute == attribute_number b))

pub good_more : (ps : List PlacedAttribute) (a : PlacedAttribute) → has_good_attributes (ps ++ a ∷ []) ≡ (has_good_attributes ps && is_addable a ps)
good_more [] a = and_true ((nat_le 1 a.count && nat_le a.count 4) && true)
good_more (p ∷ ps) a =
    ap (λ r. ((nat_le 1 p.count && nat_le p.count 4) && r) && has_good_attributes (ps ++ a ∷ [])) (absent_more p.attribute ps a)
    ∙ ap (λ r. ((nat_le 1 p.count && nat_le p.count 4) && (is_absent p.attribute ps && not (attribute_number a.attribute == attribute_number p.attribute))) && r) (good_more ps a)
    ∙ shuffle (nat_le 1 p.count && nat_le p.count 4) (is_absent p.attribute ps) (not (attribute_number a.attribute == attribute_number p.attribute)) (has_good_attributes ps) (nat_le 1 a.count && nat_le a.count 4) (is_absent a.attribute ps)

pub good_with : (ps : List PlacedAttribute) (a : PlacedAttribute) → has_good_attributes ps ≡ true → is_addable a ps ≡ true → has_good_attributes (ps ++ a ∷ []) ≡ true
good_with ps a g h = good_more ps a ∙ ap (λ r. r && is_addable a ps) g ∙ h

-- ---- look-ups

none_step : (b : Bool) (p : PlacedAttribute) (o : Option PlacedAttribute) (r : Bool) → is_none o ≡ r → is_none (cond b (Some p) o) ≡ (not b && r)
none_step true p o r e = refl
none_step false p o r e = e

pub found_none : (a : Attribute) (ps : List PlacedAttribute) → is_none (find_attribute a ps) ≡ is_absent a ps
found_none a [] = refl
found_none a (p ∷ ps) = none_step (attribute_number a == attribute_number p.attribute) p (find_attribute a ps) (is_absent a ps) (found_none a ps)

-- ---- at most seven

-- how often the attribute of a number stands in a list
hits : ℕ → List PlacedAttribute → ℕ
hits n [] = 0
hits n (p ∷ ps) = if n == attribute_number p.attribute then suc (hits n ps) else hits n ps

if_false : (b : Bool) (r : Bool) (x y : ℕ) → (not b && r) ≡ true → cond b x y ≡ y
if_false true r x y e = cc
if_false false r x y e = refl

rest_true : (b r : Bool) → (b && r) ≡ true → r ≡ true
rest_true true r e = e
rest_true false r e = cc

first_true : (b r : Bool) → (b && r) ≡ true → b ≡ true
first_true true r e = refl
first_true false r e = cc

no_hit : (a : Attribute) (ps : List PlacedAttribute) → is_absent a ps ≡ true → hits (attribute_number a) ps ≡ 0
unfolding hits
no_hit a [] e = refl
no_hit a (p ∷ ps) e =
    if_false (attribute_number a == attribute_number p.attribute) (is_absent a ps) (suc (hits (attribute_number a) ps)) (hits (attribute_number a) ps) e
    ∙ no_hit a ps (rest_true (not (attribute_number a == attribute_number p.attribute)) (is_absent a ps) e)

one_step : (n m k : ℕ) (b : Bool) → (n == m) ≡ b → (n ≡ m → k ≡ 0) → k ≤ 1 → (if b then suc k else k) ≤ 1
one_step n m k true e z h = omega (arith, z (grind (arith, e)))
one_step n m k false e z h = h

one_hit : (n : ℕ) (ps : List PlacedAttribute) → has_good_attributes ps ≡ true → hits n ps ≤ 1
unfolding hits
one_hit n [] g = omega arith
one_hit n (p ∷ ps) g =
    let counted : Bool = nat_le 1 p.count && nat_le p.count 4 in
    let absent : is_absent p.attribute ps ≡ true = rest_true counted (is_absent p.attribute ps) (first_true (counted && is_absent p.attribute ps) (has_good_attributes ps) g) in
    one_step n (attribute_number p.attribute) (hits n ps) (n == attribute_number p.attribute) refl
    (λ e. ap (λ k. hits k ps) e ∙ no_hit p.attribute ps absent)
    (one_hit n ps (rest_true (counted && is_absent p.attribute ps) (has_good_attributes ps) g))

all_hits : List PlacedAttribute → ℕ
all_hits ps = hits 0 ps + hits 1 ps + hits 2 ps + hits 3 ps + hits 4 ps + hits 5 ps + hits 6 ps

hit_more : (a : Attribute) (p : PlacedAttribute) (ps : List PlacedAttribute) → p.attribute ≡ a → all_hits (p ∷ ps) ≡ suc (all_hits ps)
unfolding hits all_hits
hit_more position_attribute p ps e = ap (λ a. all_hits (record p { attribute = a } ∷ ps)) e ∙ omega arith
hit_more normal_attribute p ps e = ap (λ a. all_hits (record p { attribute = a } ∷ ps)) e ∙ omega arith
hit_more tangent_attribute p ps e = ap (λ a. all_hits (record p { attribute = a } ∷ ps)) e ∙ omega arith
hit_more color0_attribute p ps e = ap (λ a. all_hits (record p { attribute = a } ∷ ps)) e ∙ omega arith
hit_more color1_attribute p ps e = ap (λ a. all_hits (record p { attribute = a } ∷ ps)) e ∙ omega arith
hit_more texcoord0_attribute p ps e = ap (λ a. all_hits (record p { attribute = a } ∷ ps)) e ∙ omega arith
hit_more texcoord1_attribute p ps e = ap (λ a. all_hits (record p { attribute = a } ∷ ps)) e ∙ omega arith

counted_all : (ps : List PlacedAttribute) → length ps ≡ all_hits ps
unfolding hits all_hits
counted_all [] = refl
counted_all (p ∷ ps) = ap suc (counted_all ps) ∙ sym (hit_more p.attribute p ps refl)

pub at_most_seven : (ps : List PlacedAttribute) → has_good_attributes ps ≡ true → length ps ≤ 7
unfolding all_hits
at_most_seven ps g = omega (arith, counted_all ps, one_hit 0 ps g, one_hit 1 ps g, one_hit 2 ps g, one_hit 3 ps g, one_hit 4 ps g, one_hit 5 ps g, one_hit 6 ps g)

pub none_from : (o : Option PlacedAttr) (b : Bool) (found : Option PlacedAttribute) → is_some o ≡ not b → option_map placed_seen o ≡ found → b ≡ is_none found
none_from None true found h e = ap is_none e
none_from None false found h e = cc
none_from (Some p) true found h e = cc
none_from (Some p) false found h e = ap is_none e
