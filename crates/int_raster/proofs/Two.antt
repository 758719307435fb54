-- The columns of two triangles in the rows that they share.
use Rattle.std.proofs.Common.{◌≡◌, ◌≤◌, ◌<◌, ◌+◌, ◌-◌, ◌*◌, ◌==◌, ℕ, Bool, true, false, ◌&&◌, ◌||◌, nat_le, nat_lt, min, max, List, length, take, slice_index_or, refl, ap, sym, subst, ◌∙◌, arith}
use Rattle.std.proofs.lemmas.Bool.{cases_lt, and_parts, and_from, le-leb, leb-true, lt-ltb, ltb-true, or_left, or_right}
use Rattle.std.proofs.lemmas.Bool.Decides.{nat_tests}
use Rattle.std.proofs.lemmas.List.Sums.{fold_more}
use Rattle.gfx_model.specs.Number.{map_from}
use Rattle.gfx_model.specs.Pixel.{Pixel}
use Rattle.gfx_model.specs.Raster.{contains, covers}
use Rattle.fix_math.specs.Seen.{rect_seen}
use Rattle.fix_math.specs.declared.geometry.Rect.{Rect}
use Rattle.tri_cover.specs.Bounded.{HoldsSpans}
use Rattle.tri_cover.specs.Shown.{setup_seen}
use Rattle.tri_cover.specs.declared.triangles.Setup.{Setup}
use Rattle.int_raster.specs.declared.lists.Prepared.{Prepared}
use Rattle.int_raster.specs.declared.rows.Rows.{Rows}
use Rattle.int_raster.specs.Filled.{AreLimits}
use Rattle.int_raster.specs.Joined.{AreInside, HoldsTest, IsJoined, TouchAll, JoinAll, HoldsJoined, HoldRows, either, in_turn}
use Rattle.int_raster.specs.Places.{above, below, by_place, is_drawn, where_test}
use Rattle.int_raster.specs.Seen.{facing_seen, change_seen}
use Rattle.int_raster.proofs.Raster.{rows_before, rows_behind}
use Rattle.int_raster.proofs.Rowed.{drawn_here}
use mathlib.Core.Logic.{inl, inr}

-- ---- two spans

same_test : (p q : Bool) → (p ≡ true → q ≡ true) → (q ≡ true → p ≡ true) → p ≡ q
same_test true q f g = sym (f refl)
same_test false true f g = g refl
same_test false false f g = refl

one_of : (p q : Bool) (r : Bool) → (p ≡ true → r ≡ true) → (q ≡ true → r ≡ true) → (p || q) ≡ true → r ≡ true
one_of true q r f g h = f refl
one_of false q r f g h = g h

inside : (a b x : ℕ) → a ≤ x → x < b → (nat_le a x && nat_lt x b) ≡ true
inside a b x h l = and_from (nat_le a x) (nat_lt x b) (le-leb a x h) (lt-ltb x b l)

in_either : (a b c d x : ℕ) → max a c ≤ min b d → min a c ≤ x → x < max b d → ((nat_le a x && nat_lt x b) || (nat_le c x && nat_lt x d)) ≡ true
in_either a b c d x h low high = elim (cases_lt x a) [
  | inl before ↦ or_right (nat_le a x && nat_lt x b) (nat_le c x && nat_lt x d) (inside c d x (omega (arith, h, low, before)) (omega (arith, h, low, before)))
  | inr here ↦ elim (cases_lt x b) [
    | inl there ↦ or_left (nat_le a x && nat_lt x b) (nat_le c x && nat_lt x d) (inside a b x here there)
    | inr behind ↦ or_right (nat_le a x && nat_lt x b) (nat_le c x && nat_lt x d) (inside c d x (omega (arith, h, high, behind)) (omega (arith, h, high, behind)))
  ]
]

in_both : (a b c d x : ℕ) → max a c ≤ min b d → (nat_le (min a c) x && nat_lt x (max b d)) ≡ ((nat_le a x && nat_lt x b) || (nat_le c x && nat_lt x d))
in_both a b c d x h =
    same_test (nat_le (min a c) x && nat_lt x (max b d)) ((nat_le a x && nat_lt x b) || (nat_le c x && nat_lt x d))
    (λ t. let p = and_parts (nat_le (min a c) x) (nat_lt x (max b d)) t in in_either a b c d x h (leb-true (min a c) x p.0) (ltb-true x (max b d) p.1))
    (one_of (nat_le a x && nat_lt x b) (nat_le c x && nat_lt x d) (nat_le (min a c) x && nat_lt x (max b d))
    (λ t. let p = and_parts (nat_le a x) (nat_lt x b) t in let low = leb-true a x p.0 in let high = ltb-true x b p.1 in inside (min a c) (max b d) x (omega (arith, low)) (omega (arith, high)))
    (λ t. let p = and_parts (nat_le c x) (nat_lt x d) t in let low = leb-true c x p.0 in let high = ltb-true x d p.1 in inside (min a c) (max b d) x (omega (arith, low)) (omega (arith, high))))

pub both_joined : (a b : ℕ × ℕ) → max a.0 b.0 ≤ min a.1 b.1 → IsJoined (min a.0 b.0, max a.1 b.1) a b
both_joined a b h = record { order = omega (arith, h); within = omega arith; columns = λ x. in_both a.0 a.1 b.0 b.1 x h }

-- ---- rows of a triangle

pub spans_inside : (spans : List (ℕ × ℕ)) (s : Setup) (limits : ℕ × ℕ) (cut : Rect) (width y count : ℕ) → HoldsSpans spans (setup_seen s).triangle limits.0 limits.1 y count → AreLimits limits cut width → AreInside spans width count
spans_inside spans s limits cut width y count h l k b = let e = h k b in record { order = e.order; within = omega (arith, e.within, l.within) }

-- the columns that a list has are those that a triangle changes
pub holds_drawn : (spans : List (ℕ × ℕ)) (d : Prepared) (s : Setup) (limits : ℕ × ℕ) (width y count : ℕ) → HoldsSpans spans (setup_seen s).triangle limits.0 limits.1 y count → AreLimits limits d.cut width →
    ((k : ℕ) → k < count → (d.cut.y ≤ y + k) × (y + k < d.cut.y + d.cut.h)) → HoldsTest spans (is_drawn (rect_seen d.cut) (facing_seen d s)) y width count
holds_drawn spans d s limits width y count h l in_cut k x b near = drawn_here s (slice_index_or spans k (0, 0)) limits d.cut (y + k) width x (h k b) l (in_cut k b).0 (in_cut k b).1 near

-- ---- rows of two

pub joined_inside : (spans a b : List (ℕ × ℕ)) (width count : ℕ) → JoinAll spans a b count →
    AreInside a width count → AreInside b width count → AreInside spans width count
joined_inside spans a b width count h ha hb k l =
    let j = h k l in
    let p = ha k l in
    let q = hb k l in
    record { order = j.order; within = omega (arith, j.within, p.within, q.within) }

pub joined_test : (spans a b : List (ℕ × ℕ)) (p q : ℕ → ℕ → Bool) (y width count : ℕ) → JoinAll spans a b count →
    HoldsTest a p y width count → HoldsTest b q y width count → HoldsTest spans (either p q) y width count
joined_test spans a b p q y width count h ha hb k x l near =
    (λ i. ha k x l near i || hb k x l near i) ∙ sym ((h k l).columns x)

-- a row in which one of two tests holds
pub either_row : (p q : Bool) (C : Type 0) → (p ≡ true → C) → (q ≡ true → C) → (p || q) ≡ true → C
either_row true q C f g h = f refl
either_row false q C f g h = g h

-- ---- lists of rows

pub other_row : (k i : ℕ) → k < i → (i == k) ≡ false
other_row k i h = grind (arith, nat_tests)

row_before : (i k : ℕ) → i < k → (i == k) ≡ false
row_before i k h = grind (arith, nat_tests)

-- one row more is joined
pub join_more : (k : ℕ) (now next a b : List (ℕ × ℕ)) (both : ℕ × ℕ) → JoinAll now a b k → slice_index_or next k (0, 0) ≡ both →
    ((i : ℕ) → (i == k) ≡ false → slice_index_or next i (0, 0) ≡ slice_index_or now i (0, 0)) →
    IsJoined both (slice_index_or a k (0, 0)) (slice_index_or b k (0, 0)) → JoinAll next a b (k + 1)
join_more k now next a b both before here others joined i h = elim (cases_lt i k) [
  | inl less ↦ subst (λ s. IsJoined s (slice_index_or a i (0, 0)) (slice_index_or b i (0, 0))) (sym (others i (row_before i k less))) (before i less)
  | inr more ↦
      let e : k ≡ i = omega (arith, h, more) in
      subst (λ n. IsJoined (slice_index_or next n (0, 0)) (slice_index_or a n (0, 0)) (slice_index_or b n (0, 0))) e
      (subst (λ s. IsJoined s (slice_index_or a k (0, 0)) (slice_index_or b k (0, 0))) (sym here) joined)
]

-- one row more touches
pub touch_more : (k : ℕ) (a b : List (ℕ × ℕ)) → TouchAll a b k → max (slice_index_or a k (0, 0)).0 (slice_index_or b k (0, 0)).0 ≤ min (slice_index_or a k (0, 0)).1 (slice_index_or b k (0, 0)).1 → TouchAll a b (k + 1)
touch_more k a b before here i h = elim (cases_lt i k) [
  | inl less ↦ before i less
  | inr more ↦
      let e : k ≡ i = omega (arith, h, more) in
      subst (λ n. max (slice_index_or a n (0, 0)).0 (slice_index_or b n (0, 0)).0 ≤ min (slice_index_or a n (0, 0)).1 (slice_index_or b n (0, 0)).1) e here
]

-- ---- the rows of a band

-- the first and the last row of a triangle's rows
pub first_row : (r : ℕ × ℕ) (rows : Rows) (d : Prepared) (s : Setup) (x y : ℕ) → HoldRows r rows d s → y < rows.count → is_drawn (rect_seen d.cut) (facing_seen d s) x (rows.top + y) ≡ true → r.0 ≤ y
first_row r rows d s x y h b t = let p = and_parts (contains (rect_seen d.cut) x (rows.top + y)) (covers (setup_seen s).triangle x (rows.top + y)) t in (h.all x y b p.0 p.1).0

pub last_row : (r : ℕ × ℕ) (rows : Rows) (d : Prepared) (s : Setup) (x y : ℕ) → HoldRows r rows d s → y < rows.count → is_drawn (rect_seen d.cut) (facing_seen d s) x (rows.top + y) ≡ true → y < r.1
last_row r rows d s x y h b t = let p = and_parts (contains (rect_seen d.cut) x (rows.top + y)) (covers (setup_seen s).triangle x (rows.top + y)) t in (h.all x y b p.0 p.1).1

-- those rows lie in the cut
pub rows_in_cut : (r : ℕ × ℕ) (rows : Rows) (d : Prepared) (s : Setup) (k : ℕ) → HoldRows r rows d s → k < r.1 - r.0 → (d.cut.y ≤ rows.top + r.0 + k) × (rows.top + r.0 + k < d.cut.y + d.cut.h)
rows_in_cut r rows d s k h b = let here = h.cut (r.0 + k) (omega arith) (omega (arith, b)) in (omega (arith, here.0), omega (arith, here.1))

-- ---- the rows that a list has, for one triangle or two

pub short_inside : (two : Bool) (olds news : List (ℕ × ℕ)) (s n : Setup) (limits : ℕ × ℕ) (cut : Rect) (width y count : ℕ) → HoldsSpans olds (setup_seen s).triangle limits.0 limits.1 y count → AreLimits limits cut width →
    (two ≡ true → HoldsJoined news olds (setup_seen n).triangle limits.0 limits.1 y count) → (two ≡ false → news ≡ olds) → AreInside news width count
short_inside true olds news s n limits cut width y count h l joined still =
    let j = joined refl in
    joined_inside news olds j.0 width count j.1.1 (spans_inside olds s limits cut width y count h l) (spans_inside j.0 n limits cut width y count j.1.0 l)
short_inside false olds news s n limits cut width y count h l joined still = subst (λ z. AreInside z width count) (sym (still refl)) (spans_inside olds s limits cut width y count h l)

-- a change of some rows is one of all, where its test holds in no others
pub whole_rows : {A : Type 0} (f : ℕ → ℕ → A → A) (test : ℕ → ℕ → Bool) (w top height first after count : ℕ) (xs ys : List A) → 0 < w → length xs ≡ w * height → first + count ≡ after →
    ((x y : ℕ) → y < height → test x (top + y) ≡ true → first ≤ y) → ((x y : ℕ) → y < height → test x (top + y) ≡ true → y < after) →
    (xs ≡ map_from (above w first (below top (where_test test f))) 0 xs → ys ≡ map_from (above w (first + count) (below top (where_test test f))) 0 xs) →
    ys ≡ map_from (by_place w (below top (where_test test f))) 0 xs
whole_rows f test w top height first after count xs ys pw l e low high run =
    rows_behind (below top f) (λ x y. test x (top + y)) w height after xs ys pw l high
    (run (rows_before (below top f) (λ x y. test x (top + y)) w height first xs pw l low) ∙ ap (λ n. map_from (above w n (below top (where_test test f))) 0 xs) e)

-- ---- triangles in turn

pub one_in_turn : (rows : Rows) (d : Prepared) (start : List Pixel) (ts : List Setup) (at : ℕ) (s : Setup) (old new : List Pixel) → at < length ts → s ≡ slice_index_or ts at s →
    old ≡ in_turn rows d start (take at ts) → new ≡ map_from (by_place rows.width (below rows.top (change_seen d s))) 0 old → new ≡ in_turn rows d start (take (at + 1) ts)
one_in_turn rows d start ts at s old new h e before step =
    step ∙ (λ i. map_from (by_place rows.width (below rows.top (change_seen d (e i)))) 0 (before i))
    ∙ sym (fold_more (λ qs t. map_from (by_place rows.width (below rows.top (change_seen d t))) 0 qs) start ts at s h)

pub two_in_turn : (rows : Rows) (d : Prepared) (start : List Pixel) (ts : List Setup) (at : ℕ) (s n : Setup) (old new : List Pixel) → at + 1 < length ts → s ≡ slice_index_or ts at s → n ≡ slice_index_or ts (at + 1) n →
    old ≡ in_turn rows d start (take at ts) →
    new ≡ map_from (by_place rows.width (below rows.top (change_seen d n))) 0 (map_from (by_place rows.width (below rows.top (change_seen d s))) 0 old) → new ≡ in_turn rows d start (take (at + 2) ts)
two_in_turn rows d start ts at s n old new h es en before step =
    let mid = map_from (by_place rows.width (below rows.top (change_seen d s))) 0 old in
    let one = one_in_turn rows d start ts at s old mid (omega (arith, h)) es before refl in
    let two : at + 1 + 1 ≡ at + 2 = omega arith in
    one_in_turn rows d start ts (at + 1) n mid new h en one step ∙ ap (λ m. in_turn rows d start (take m ts)) two
