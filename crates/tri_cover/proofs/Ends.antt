-- Bounds in fixed point are the sides' floors.
use Rattle.std.proofs.Common.{◌≡◌, ℕ, suc, ◌+◌, ◌-◌, ◌*◌, ◌^◌, ◌<◌, ◌≤◌, Bool, true, false, refl, ap, sym, subst, ◌∙◌, arith}
use Rattle.std.specs.Prelude.{ℤ, pos, negsuc, ◌+ℤ◌, ◌-ℤ◌, ◌*ℤ◌, ◌≤ℤ◌, int_le, int_lt, ◌&&◌, nat_le, nat_lt, unsigned_abs, IsTrue}
use Rattle.std.specs.Int.{int_div_euclid, int_min, int_max}
use Rattle.std.specs.Cmp.{both_ways}
use Rattle.std.proofs.lemmas.Int.{ints, clamps, unsigned_abs-mul}
use Rattle.std.proofs.lemmas.Bool.Decides.{nat_tests}
use Rattle.std.proofs.Math.Nat.{mul-le-mul_left, mul-le-mul_right}
use borrow.Author.Differences.{product_is, true_is_le}
use lib.IntN.{neg_ℤ}
use Rattle.tri_cover.specs.Columns.{is_between, is_reached}
use Rattle.tri_cover.specs.Slope.{IsFloor, IsNearly}
use Rattle.tri_cover.specs.Seen.{is_on_side}
use Rattle.tri_cover.specs.Walked.{reached_at}
use Rattle.tri_cover.specs.Bounded.{bound_at, is_not_before, is_not_behind, IsMoved}
use Rattle.tri_cover.specs.declared.edges.Edge.{Edge}
use Rattle.tri_cover.specs.declared.bounds.Bound.{Bound}
use Rattle.tri_cover.proofs.Half.{times_sum, right, left}
use native.Mathlib.Nat.{mul_comm}
use Rattle.tri_cover.proofs.Fixed.{floor_is, one_floor, sum_times}
use Rattle.tri_cover.proofs.Settled.{one_step, no_step}
use Rattle.tri_cover.proofs.Slopes.{times_nat, nearly_by_inverse, nearly_exact}
use Rattle.tri_cover.proofs.Walks.{floor_near}

-- ---- start and step

-- a number scaled by an inverse of n is nearly its 2^28 parts by n
nearly_scaled : (z f : ℤ) (n r : ℕ) → 0 < n → r * n ≤ 2 ^ 62 → 2 ^ 62 < r * n + n → f ≡ int_div_euclid (z *ℤ pos r) (pos (2 ^ 34)) → unsigned_abs z ≤ 2 ^ 34 → IsNearly z f n (2 ^ 28)
nearly_scaled z f n r pn low high e hz =
    let h : IsFloor (z *ℤ pos r) (int_div_euclid (z *ℤ pos r) (pos (2 ^ 34))) (2 ^ 34) = floor_is (z *ℤ pos r) (2 ^ 34) (omega arith) in
    let is : z *ℤ pos r ≡ f *ℤ pos (2 ^ 34) +ℤ pos h.rest = h.is ∙ ap (λ w. w *ℤ pos (2 ^ 34) +ℤ pos h.rest) (sym e) in
    nearly_by_inverse z f n r (2 ^ 62 - r * n) (2 ^ 34) (2 ^ 28) h.rest pn (omega arith) (omega (arith, low)) (omega (arith, low, high)) is h.below hz

-- two numbers by which another is multiplied
pub turned : (z : ℤ) (a b : ℕ) → (z *ℤ pos a) *ℤ pos b ≡ (z *ℤ pos b) *ℤ pos a
turned z a b = sym (times_nat z a b) ∙ ap (λ n. z *ℤ pos n) (mul_comm a b) ∙ times_nat z b a

-- the same of its floor by 256
nearly_coarse : (z q f : ℤ) (n : ℕ) → 0 < n → f ≡ int_div_euclid q (pos 256) → IsNearly z q n (2 ^ 28) → IsNearly z f n (2 ^ 20)
nearly_coarse z q f n pn e h =
    let g : IsFloor q (int_div_euclid q (pos 256)) 256 = floor_is q 256 (omega arith) in
    let is : q ≡ f *ℤ pos 256 +ℤ pos g.rest = g.is ∙ ap (λ w. w *ℤ pos 256 +ℤ pos g.rest) (sym e) in
    let few : g.rest ≤ 255 = omega (arith, g.below) in
    let rest : g.rest * n ≤ 255 * n = mul-le-mul_right n few in
    let all : q *ℤ pos n ≡ (f *ℤ pos n) *ℤ pos 256 +ℤ pos g.rest *ℤ pos n = ap (λ w. w *ℤ pos n) is ∙ sum_times (f *ℤ pos 256) (pos g.rest) (pos n) ∙ ap (λ w. w +ℤ pos g.rest *ℤ pos n) (turned f 256 n) in
    let small : pos g.rest *ℤ pos n ≡ pos (g.rest * n) = omega (arith, ints, product_is) in
    omega (arith, ints, h, all, small, rest, pn)

-- the whole part of a bound in s parts of a column is the side's floor in 32 rows
floor_by : (z d f g : ℤ) (n s k : ℕ) → 0 < n → 132 * n ≤ s → IsNearly z f n s → IsNearly d g n s → k ≤ 32 → IsFloor (f +ℤ pos 66 +ℤ g *ℤ pos k) (int_div_euclid (z +ℤ d *ℤ pos k) (pos n)) s
floor_by z d f g n s k pn small hf hg hk =
    let v = int_div_euclid (z +ℤ d *ℤ pos k) (pos n) in
    let here : IsFloor (z +ℤ d *ℤ pos k) v n = floor_is (z +ℤ d *ℤ pos k) n pn in
    let none : pos 0 *ℤ pos 0 ≡ pos 0 = refl in
    let there : IsFloor (z +ℤ d *ℤ pos k +ℤ pos 0 *ℤ pos 0) v n = record { rest = here.rest; below = here.below; is = omega (arith, ints, here.is, none) } in
    let nothing : IsNearly (pos 0) (pos 0) n s = omega (arith, ints, product_is, pn) in
    let found = nearly_exact z d (pos 0) f g (pos 0) v (pos k) (pos 0) n s 33 pn hf hg nothing (omega (arith, ints, hk)) (omega (arith, small)) there in
    record { rest = found.rest; below = found.below; is = omega (arith, ints, found.is, none) }

-- in 1/2^28 of a column
pub floor_at : (z d f g : ℤ) (n r k : ℕ) → 0 < n → n ≤ 2 ^ 20 → r * n ≤ 2 ^ 62 → 2 ^ 62 < r * n + n →
    f ≡ int_div_euclid (z *ℤ pos r) (pos (2 ^ 34)) → g ≡ int_div_euclid (d *ℤ pos r) (pos (2 ^ 34)) → unsigned_abs z ≤ 2 ^ 33 → unsigned_abs d < 2 ^ 29 → k ≤ 32 →
    IsFloor (f +ℤ pos 66 +ℤ g *ℤ pos k) (int_div_euclid (z +ℤ d *ℤ pos k) (pos n)) (2 ^ 28)
floor_at z d f g n r k pn small low high ef eg hz hd hk =
    floor_by z d f g n (2 ^ 28) k pn (omega (arith, small)) (nearly_scaled z f n r pn low high ef (omega (arith, hz))) (nearly_scaled d g n r pn low high eg (omega (arith, hd))) hk

-- in 1/2^20 of a column, and that in 1/2^28
pub coarse_floor_at : (z d f g : ℤ) (n r k : ℕ) → 0 < n → n ≤ 7936 → r * n ≤ 2 ^ 62 → 2 ^ 62 < r * n + n →
    f ≡ int_div_euclid (int_div_euclid (z *ℤ pos r) (pos (2 ^ 34))) (pos 256) → g ≡ int_div_euclid (int_div_euclid (d *ℤ pos r) (pos (2 ^ 34))) (pos 256) → unsigned_abs z ≤ 2 ^ 33 → unsigned_abs d < 2 ^ 29 → k ≤ 32 →
    IsFloor ((f +ℤ pos 66) *ℤ pos 256 +ℤ (g *ℤ pos 256) *ℤ pos k) (int_div_euclid (z +ℤ d *ℤ pos k) (pos n)) (2 ^ 28)
coarse_floor_at z d f g n r k pn small low high ef eg hz hd hk =
    let v = int_div_euclid (z +ℤ d *ℤ pos k) (pos n) in
    let found : IsFloor (f +ℤ pos 66 +ℤ g *ℤ pos k) v (2 ^ 20) = floor_by z d f g n (2 ^ 20) k pn (omega (arith, small))
    (nearly_coarse z (int_div_euclid (z *ℤ pos r) (pos (2 ^ 34))) f n pn ef (nearly_scaled z (int_div_euclid (z *ℤ pos r) (pos (2 ^ 34))) n r pn low high refl (omega (arith, hz))))
    (nearly_coarse d (int_div_euclid (d *ℤ pos r) (pos (2 ^ 34))) g n pn eg (nearly_scaled d (int_div_euclid (d *ℤ pos r) (pos (2 ^ 34))) n r pn low high refl (omega (arith, hd)))) hk in
    record { rest = 256 * found.rest; below = omega (arith, found.below); is = omega (arith, ints, found.is, turned g 256 k) }

moved_near : (z d : ℤ) (k : ℕ) → unsigned_abs z ≤ 2 ^ 33 → unsigned_abs d < 2 ^ 29 → k ≤ 32 → unsigned_abs (z +ℤ d *ℤ pos k) ≤ 2 ^ 33 + 2 ^ 34
moved_near z d k hz hd hk =
    let p : unsigned_abs (d *ℤ pos k) ≤ unsigned_abs d * 32 = rw unsigned_abs-mul (mul-le-mul_left (unsigned_abs d) hk) in
    omega (arith, ints, hz, hd, p)

-- a bound whose whole part is the side's floor fits in 64 bits
pub tame_at : (z d at : ℤ) (n k : ℕ) → 0 < n → unsigned_abs z ≤ 2 ^ 33 → unsigned_abs d < 2 ^ 29 → k ≤ 32 → IsFloor at (int_div_euclid (z +ℤ d *ℤ pos k) (pos n)) (2 ^ 28) → unsigned_abs at < 2 ^ 63
tame_at z d at n k pn hz hd hk f =
    let near = floor_near (z +ℤ d *ℤ pos k) (pos n) (omega (arith, ints, pn)) in
    omega (arith, ints, product_is, f.is, f.below, near, moved_near z d k hz hd hk)

-- ---- sides

-- an edge's value in a later row, and its floor by 256 n
later : (e : Edge) (row k : ℕ) → reached_at e (row + k) ≡ reached_at e row +ℤ (e.rise *ℤ pos k) *ℤ pos 256
later e row k =
    let h : pos (256 * row) +ℤ pos (k * 256) ≡ pos (256 * (row + k)) = omega (arith, ints) in
    omega (arith, ints, times_sum e.rise (pos (256 * row)) (pos (k * 256)), times_nat e.rise k 256, ap (λ n. e.rise *ℤ n) h)

floor_later : (e : Edge) (row k n : ℕ) (value : ℤ) → 0 < n → value ≡ int_div_euclid (reached_at e row) (pos 256) →
    IsFloor (reached_at e (row + k)) (int_div_euclid (value +ℤ e.rise *ℤ pos k) (pos n)) (256 * n)
floor_later e row k n value pn ev =
    let v = int_div_euclid (value +ℤ e.rise *ℤ pos k) (pos n) in
    let f = floor_is (reached_at e row) 256 (omega arith) in
    let g = floor_is (value +ℤ e.rise *ℤ pos k) n pn in
    let is : reached_at e row ≡ value *ℤ pos 256 +ℤ pos f.rest = f.is ∙ ap (λ w. w *ℤ pos 256 +ℤ pos f.rest) (sym ev) in
    let all : v *ℤ pos (256 * n) ≡ (v *ℤ pos n) *ℤ pos 256 = ap (λ m. v *ℤ pos m) (omega arith) ∙ times_nat v n 256 in
    record {
      rest = 256 * g.rest + f.rest;
      below = omega (arith, f.below, g.below);
      is = omega (arith, ints, product_is, later e row k, is, g.is, all);
    }

same_floor : (e : Edge) (row k n : ℕ) (value : ℤ) → 0 < n → value ≡ int_div_euclid (reached_at e row) (pos 256) →
    int_div_euclid (value +ℤ e.rise *ℤ pos k) (pos n) ≡ int_div_euclid (reached_at e (row + k)) (pos (256 * n))
same_floor e row k n value pn ev =
    one_floor (reached_at e (row + k)) (int_div_euclid (value +ℤ e.rise *ℤ pos k) (pos n)) (int_div_euclid (reached_at e (row + k)) (pos (256 * n))) (256 * n)
    (floor_later e row k n value pn ev) (floor_is (reached_at e (row + k)) (256 * n) (omega (arith, pn)))

not_behind_is : (at v : ℤ) (x : ℕ) → IsFloor at v (2 ^ 28) → int_le (pos x) v ≡ is_not_behind at x
not_behind_is at v x f = both_ways _ _
    (λ p. sym (true_is_le (pos (2 ^ 28 * x)) at (omega (arith, ints, product_is, f.is, f.below, p))))
    (λ p. sym (true_is_le (pos x) v (omega (arith, ints, product_is, f.is, f.below, p))))

not_before_is : (at v : ℤ) (x : ℕ) → IsFloor at v (2 ^ 28) → int_le (neg_ℤ v) (pos x) ≡ is_not_before at x
not_before_is at v x f = both_ways _ _
    (λ p. sym (true_is_le (pos 0) (at +ℤ pos (2 ^ 28 * x)) (omega (arith, ints, product_is, f.is, f.below, p))))
    (λ p. sym (true_is_le (neg_ℤ v) (pos x) (omega (arith, ints, product_is, f.is, f.below, p))))

right_reached : (r v at fall : ℤ) (n x : ℕ) → 0 < n → fall ≡ pos n → v ≡ int_div_euclid r (pos (256 * n)) → IsFloor at v (2 ^ 28) → is_not_behind at x ≡ is_reached r fall x
right_reached r v at fall n x pn ef ev f =
    sym (ap (λ d. is_reached r d x) ef ∙ right r n x pn ∙ ap (int_le (pos x)) (sym ev) ∙ not_behind_is at v x f)

minus : (r fall : ℤ) (n x : ℕ) → 0 < n → pos 0 -ℤ fall ≡ pos n → r -ℤ fall *ℤ pos (256 * x) ≡ r +ℤ pos n *ℤ pos (256 * x)
minus r (pos m) n x pn e = absurd (omega (arith, ints, e, pn))
minus r (negsuc m) n x pn e = subst (λ k. r -ℤ negsuc m *ℤ pos (256 * x) ≡ r +ℤ pos k *ℤ pos (256 * x)) size (turned m x)
  where
    size : suc m ≡ n
    size = omega (arith, ints, e)

    turned : (m x : ℕ) → r -ℤ negsuc m *ℤ pos (256 * x) ≡ r +ℤ pos (suc m) *ℤ pos (256 * x)
    turned m x = omega (arith, ints, product_is)

left_reached : (r v at fall : ℤ) (n x : ℕ) → 0 < n → pos 0 -ℤ fall ≡ pos n → v ≡ int_div_euclid r (pos (256 * n)) → IsFloor at v (2 ^ 28) → is_not_before at x ≡ is_reached r fall x
left_reached r v at fall n x pn ef ev f =
    sym (ap (int_le (pos 0)) (minus r fall n x pn ef) ∙ left r n x pn ∙ ap (λ w. int_le (neg_ℤ w) (pos x)) (sym ev) ∙ not_before_is at v x f)

-- a right edge's bound, and a left edge's
pub right_is : (e : Edge) (row k x n : ℕ) (value at : ℤ) → 0 < n → e.fall ≡ pos n → value ≡ int_div_euclid (reached_at e row) (pos 256) →
    IsFloor at (int_div_euclid (value +ℤ e.rise *ℤ pos k) (pos n)) (2 ^ 28) → is_not_behind at x ≡ is_on_side e (row + k) x
right_is e row k x n value at pn ef ev f =
    right_reached (reached_at e (row + k)) (int_div_euclid (value +ℤ e.rise *ℤ pos k) (pos n)) at e.fall n x pn ef (same_floor e row k n value pn ev) f

pub left_is : (e : Edge) (row k x n : ℕ) (value at : ℤ) → 0 < n → pos 0 -ℤ e.fall ≡ pos n → value ≡ int_div_euclid (reached_at e row) (pos 256) →
    IsFloor at (int_div_euclid (value +ℤ e.rise *ℤ pos k) (pos n)) (2 ^ 28) → is_not_before at x ≡ is_on_side e (row + k) x
left_is e row k x n value at pn ef ev f =
    left_reached (reached_at e (row + k)) (int_div_euclid (value +ℤ e.rise *ℤ pos k) (pos n)) at e.fall n x pn ef (same_floor e row k n value pn ev) f

-- all columns of a row lie on the inner side of a level edge whose value is not below 0
pub level_is : (e : Edge) (row k x : ℕ) (value : ℤ) → e.fall ≡ pos 0 → value ≡ int_div_euclid (reached_at e row) (pos 256) → pos 0 ≤ℤ (value +ℤ e.rise *ℤ pos k) → is_on_side e (row + k) x ≡ true
level_is e row k x value ef ev h =
    let f = floor_is (reached_at e row) 256 (omega arith) in
    let is : reached_at e row ≡ value *ℤ pos 256 +ℤ pos f.rest = f.is ∙ ap (λ w. w *ℤ pos 256 +ℤ pos f.rest) (sym ev) in
    let none : e.fall *ℤ pos (256 * x) ≡ pos 0 = ap (λ w. w *ℤ pos (256 * x)) ef ∙ omega (arith, ints, product_is) in
    sym (true_is_le (pos 0) (reached_at e (row + k) -ℤ e.fall *ℤ pos (256 * x)) (omega (arith, ints, product_is, later e row k, is, none, h)))

-- a value that is not below 0 at both ends of some rows is so in all of them
pub stays_between : (z d : ℤ) (m k : ℕ) → pos 0 ≤ℤ z → pos 0 ≤ℤ (z +ℤ d *ℤ pos m) → k ≤ m → pos 0 ≤ℤ (z +ℤ d *ℤ pos k)
stays_between z (pos d) m k a b h = omega (arith, ints, product_is, a)
stays_between z (negsuc d) m k a b h = omega (arith, ints, product_is, b, mul-le-mul_left (suc d) h)

-- ---- the ends of a row

larger : (l f x : ℤ) → int_le (int_max l f) x ≡ (int_le f x && int_le l x)
larger l f x = grind (arith, ints, clamps)

smaller : (r a x : ℤ) → int_lt x (int_min r a) ≡ (int_lt x a && int_lt x r)
smaller r a x = grind (arith, ints, clamps)

in_order : (f l a r : Bool) → ((f && l) && (a && r)) ≡ ((f && a) && (l && r))
in_order true true true r = refl
in_order true true false r = refl
in_order true false true r = refl
in_order true false false r = refl
in_order false l a r = refl

le_is : (n x : ℕ) → int_le (pos n) (pos x) ≡ nat_le n x
le_is n x = grind (arith, ints, nat_tests)

lt_is : (n x : ℕ) → int_lt (pos x) (pos n) ≡ nat_lt x n
lt_is n x = grind (arith, ints, nat_tests)

-- the columns between a first and the one behind a last, and between two ends
pub between_is : (first after x : ℕ) (l r : ℤ) → is_between (int_max l (pos first)) (int_min r (pos after)) x ≡ ((nat_le first x && nat_lt x after) && (int_le l (pos x) && int_lt (pos x) r))
between_is first after x l r =
    (λ i. larger l (pos first) (pos x) i && smaller r (pos after) (pos x) i)
    ∙ in_order (int_le (pos first) (pos x)) (int_le l (pos x)) (int_lt (pos x) (pos after)) (int_lt (pos x) r)
    ∙ (λ i. (le_is first x i && lt_is after x i) && (int_le l (pos x) && int_lt (pos x) r))

-- ---- numbers of 64 bits

pub scaled_near : (z q : ℤ) (r : ℕ) → unsigned_abs z ≤ 2 ^ 34 → r ≤ 2 ^ 62 → q ≡ int_div_euclid (z *ℤ pos r) (pos (2 ^ 34)) → unsigned_abs q ≤ 2 ^ 62
scaled_near z q r hz hr e =
    let f = floor_is (z *ℤ pos r) (2 ^ 34) (omega arith) in
    let is : z *ℤ pos r ≡ q *ℤ pos (2 ^ 34) +ℤ pos f.rest = f.is ∙ ap (λ w. w *ℤ pos (2 ^ 34) +ℤ pos f.rest) (sym e) in
    let p : unsigned_abs (z *ℤ pos r) ≤ 2 ^ 34 * 2 ^ 62 = rw unsigned_abs-mul (omega (arith, mul-le-mul_left (unsigned_abs z) hr, mul-le-mul_right (2 ^ 62) hz)) in
    omega (arith, ints, product_is, is, f.below, p)

pub level_moved : (d : ℤ) (count : ℕ) → unsigned_abs d < 2 ^ 29 → count ≤ 32 → unsigned_abs (d *ℤ (pos count -ℤ pos 1)) ≤ 2 ^ 34
level_moved d count hd hc =
    let few : unsigned_abs (pos count -ℤ pos 1) ≤ 32 = omega (arith, ints, hc) in
    rw unsigned_abs-mul (omega (arith, mul-le-mul_left (unsigned_abs d) few, hd))

pub end_of_level : (z d : ℤ) (count : ℕ) → 0 < count → IsTrue (int_le (pos 0) (z +ℤ d *ℤ (pos count -ℤ pos 1))) → pos 0 ≤ℤ (z +ℤ d *ℤ pos (count - 1))
end_of_level z d count h t =
    let e : pos count -ℤ pos 1 ≡ pos (count - 1) = omega (arith, ints, h) in
    subst (λ w. pos 0 ≤ℤ (z +ℤ d *ℤ w)) e (omega (arith, ints, t))

pub moved_on : (b start : Bound) (k : ℕ) → IsMoved b start k → b.at +ℤ b.step ≡ bound_at start (k + 1)
moved_on b start k h = (λ i. h.at i +ℤ h.step i) ∙ sym (one_step start.at start.step k)

pub not_moved : (b : Bound) → IsMoved b b 0
not_moved b = record { at = sym (no_step b.at b.step); step = refl }

pub and_all : (a b : Bool) → b ≡ true → a ≡ (a && b)
and_all true b e = sym e
and_all false b e = refl
