-- A pixel is covered where it lies on the inner side of three edges.
use Rattle.std.proofs.Common.{◌≡◌, ℕ, ◌*◌, ◌<◌, Bool, true, false, refl, ap, sym, ◌∙◌, arith}
use Rattle.std.specs.Prelude.{ℤ, pos, ◌+ℤ◌, ◌-ℤ◌, ◌*ℤ◌, int_le, ◌&&◌, ◌<ℤ◌, ◌≤ℤ◌}
use Rattle.std.proofs.lemmas.Int.{ints}
use Rattle.gfx_model.specs.Raster.{ScreenVertex as ModelVertex, edge, is_top_or_left, is_inside, covers}
use Rattle.tri_cover.specs.Columns.{is_between, is_reached, reach_of, lost}
use Rattle.tri_cover.specs.Seen.{screen_seen, triangle_seen, IsEdge, is_on_side}
use Rattle.tri_cover.specs.declared.corners.ScreenVertex.{ScreenVertex}
use Rattle.tri_cover.specs.declared.edges.Edge.{Edge}
use Rattle.tri_cover.proofs.Half.{tie, edge_by_place}

regroup : (e k r f l : ℤ) → e ≡ k +ℤ r -ℤ f → e -ℤ l ≡ k -ℤ l +ℤ r -ℤ f
regroup e k r f l h = omega (arith, ints, h)

pub inside_is : (p q : ModelVertex) (x y : ℕ) → is_inside p q x y ≡ is_reached (reach_of p q y) (q.y -ℤ p.y) x
inside_is p q x y =
    tie (edge p q x y) (is_top_or_left p q)
    ∙ ap (int_le (pos 0)) (regroup (edge p q x y) ((q.x -ℤ p.x) *ℤ (pos 128 -ℤ p.y) -ℤ (q.y -ℤ p.y) *ℤ (pos 128 -ℤ p.x)) ((q.x -ℤ p.x) *ℤ pos (256 * y)) ((q.y -ℤ p.y) *ℤ pos (256 * x)) (pos (lost (is_top_or_left p q))) (edge_by_place (q.x -ℤ p.x) (q.y -ℤ p.y) p.x p.y x y))

pub side_is : (e : Edge) (p q : ScreenVertex) (x y : ℕ) → IsEdge e p q → is_on_side e y x ≡ is_inside (screen_seen p) (screen_seen q) x y
side_is e p q x y h = rw (h.rise, h.fall, h.base) (sym (inside_is (screen_seen p) (screen_seen q) x y))

in_row : (x w : ℕ) → x < w → is_between (pos 0) (pos w) x ≡ true
in_row x w h = grind (arith, ints)

all_three : (a b c d : Bool) → d ≡ true → (((d && a) && b) && c) ≡ ((a && b) && c)
all_three a b c true h = refl
all_three a b c false h = cc

-- three cuts of a row leave the covered columns
pub covered_columns : (e f g : Edge) (a b c : ScreenVertex) (x y w : ℕ) → IsEdge e a b → IsEdge f b c → IsEdge g c a → x < w → (((is_between (pos 0) (pos w) x && is_on_side e y x) && is_on_side f y x) && is_on_side g y x) ≡ covers (triangle_seen a b c) x y
covered_columns e f g a b c x y w he hf hg h =
    all_three (is_on_side e y x) (is_on_side f y x) (is_on_side g y x) (is_between (pos 0) (pos w) x) (in_row x w h)
    ∙ (λ i. (side_is e a b x y he i && side_is f b c x y hf i) && side_is g c a x y hg i)

-- three sides leave the covered columns
pub covered_sides : (e f g : Edge) (a b c : ScreenVertex) (x y : ℕ) → IsEdge e a b → IsEdge f b c → IsEdge g c a → (((true && is_on_side e y x) && is_on_side f y x) && is_on_side g y x) ≡ covers (triangle_seen a b c) x y
covered_sides e f g a b c x y he hf hg i = (side_is e a b x y he i && side_is f b c x y hf i) && side_is g c a x y hg i

-- what each cut keeps, kept by all three
pub cut_thrice : (w f1 f2 f3 a1 a2 a3 : ℤ) → f1 ≤ℤ f2 → f2 ≤ℤ f3 → (f1 <ℤ a1 → a1 ≤ℤ w) → (f2 <ℤ a2 → a2 ≤ℤ a1) → (f3 <ℤ a3 → a3 ≤ℤ a2) → f3 <ℤ a3 → a3 ≤ℤ w
cut_thrice w f1 f2 f3 a1 a2 a3 g2 g3 h1 h2 h3 h =
    let k3 : a3 ≤ℤ a2 = h3 h in
    let k2 : a2 ≤ℤ a1 = h2 (omega (arith, ints)) in
    let k1 : a1 ≤ℤ w = h1 (omega (arith, ints)) in
    omega (arith, ints)
