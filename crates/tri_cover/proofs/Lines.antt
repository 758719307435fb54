-- Sums of weighted values are stepped by columns and rows.
use Rattle.std.proofs.Common.{◌≡◌, ℕ, ◌+◌, ◌-◌, ◌*◌, ◌/◌, ◌%◌, ◌^◌, ◌<◌, ◌≤◌, ap, sym, ◌∙◌, refl, arith}
use Rattle.std.specs.Prelude.{ℤ, pos, ◌+ℤ◌, ◌-ℤ◌, ◌*ℤ◌, unsigned_abs}
use Rattle.std.specs.Int.{int_div_euclid}
use Rattle.std.proofs.lemmas.Int.{ints}
use Rattle.std.proofs.lemmas.Nat.{div-add-mod'}
use borrow.Author.Differences.{product_is}
use lib.IntN.{*ℤ_comm}
use Rattle.gfx_model.specs.Vertex.{Triangle}
use Rattle.gfx_model.specs.Raster.{ScreenVertex, edge, area, weighted}
use Rattle.tri_cover.specs.declared.ramps.Ramp.{Ramp}
use Rattle.tri_cover.specs.Slope.{IsFloor, IsSlope, IsRamp}
use Rattle.tri_cover.proofs.Half.{times_difference, edge_by_place}
use Rattle.tri_cover.proofs.Barycentre.{difference_times, swap_last}
use Rattle.tri_cover.proofs.Fixed.{floor_is, sum_times}
use Rattle.tri_cover.proofs.Slopes.{times_nat, nearly_exact}

one_edge : (dx dy base : ℤ) (x y x0 y0 : ℕ) →
    base +ℤ dx *ℤ pos (256 * y) -ℤ dy *ℤ pos (256 * x)
    ≡ base +ℤ dx *ℤ pos (256 * y0) -ℤ dy *ℤ pos (256 * x0) +ℤ (pos 0 -ℤ pos 256 *ℤ dy) *ℤ (pos x -ℤ pos x0) +ℤ (pos 256 *ℤ dx) *ℤ (pos y -ℤ pos y0)
one_edge dx dy base x y x0 y0 =
    omega (
      arith,
      ints,
      times_nat dx 256 y,
      times_nat dx 256 y0,
      times_nat dy 256 x,
      times_nat dy 256 x0,
      *ℤ_comm (pos 256) dx,
      *ℤ_comm (pos 256) dy,
      times_difference (pos 0 -ℤ pos 256 *ℤ dy) (pos x) (pos x0),
      times_difference (pos 256 *ℤ dx) (pos y) (pos y0),
      difference_times (pos 0) (pos 256 *ℤ dy) (pos x),
      difference_times (pos 0) (pos 256 *ℤ dy) (pos x0),
      ap (λ w. w *ℤ pos x) (*ℤ_comm (pos 256) dy),
      ap (λ w. w *ℤ pos x0) (*ℤ_comm (pos 256) dy),
      ap (λ w. w *ℤ pos y) (*ℤ_comm (pos 256) dx),
      ap (λ w. w *ℤ pos y0) (*ℤ_comm (pos 256) dx),
      product_is,
    )

pub edge_line : (p q : ScreenVertex) (x y x0 y0 : ℕ) →
    edge p q x y ≡ edge p q x0 y0 +ℤ (pos 0 -ℤ pos 256 *ℤ (q.y -ℤ p.y)) *ℤ (pos x -ℤ pos x0) +ℤ (pos 256 *ℤ (q.x -ℤ p.x)) *ℤ (pos y -ℤ pos y0)
edge_line p q x y x0 y0 =
    let base = (q.x -ℤ p.x) *ℤ (pos 128 -ℤ p.y) -ℤ (q.y -ℤ p.y) *ℤ (pos 128 -ℤ p.x) in
    edge_by_place (q.x -ℤ p.x) (q.y -ℤ p.y) p.x p.y x y
    ∙ one_edge (q.x -ℤ p.x) (q.y -ℤ p.y) base x y x0 y0
    ∙ ap (λ z. z +ℤ (pos 0 -ℤ pos 256 *ℤ (q.y -ℤ p.y)) *ℤ (pos x -ℤ pos x0) +ℤ (pos 256 *ℤ (q.x -ℤ p.x)) *ℤ (pos y -ℤ pos y0)) (sym (edge_by_place (q.x -ℤ p.x) (q.y -ℤ p.y) p.x p.y x0 y0))

sum_line : (e1 e2 e3 a1 a2 a3 b1 b2 b3 k j u v w : ℤ) →
    (e1 +ℤ a1 *ℤ k +ℤ b1 *ℤ j) *ℤ u +ℤ (e2 +ℤ a2 *ℤ k +ℤ b2 *ℤ j) *ℤ v +ℤ (e3 +ℤ a3 *ℤ k +ℤ b3 *ℤ j) *ℤ w
    ≡ (e1 *ℤ u +ℤ e2 *ℤ v +ℤ e3 *ℤ w) +ℤ (a1 *ℤ u +ℤ a2 *ℤ v +ℤ a3 *ℤ w) *ℤ k +ℤ (b1 *ℤ u +ℤ b2 *ℤ v +ℤ b3 *ℤ w) *ℤ j
sum_line e1 e2 e3 a1 a2 a3 b1 b2 b3 k j u v w =
    omega (
      arith,
      ints,
      sum_times (e1 +ℤ a1 *ℤ k) (b1 *ℤ j) u,
      sum_times e1 (a1 *ℤ k) u,
      sum_times (e2 +ℤ a2 *ℤ k) (b2 *ℤ j) v,
      sum_times e2 (a2 *ℤ k) v,
      sum_times (e3 +ℤ a3 *ℤ k) (b3 *ℤ j) w,
      sum_times e3 (a3 *ℤ k) w,
      swap_last a1 k u,
      swap_last b1 j u,
      swap_last a2 k v,
      swap_last b2 j v,
      swap_last a3 k w,
      swap_last b3 j w,
      sum_times (a1 *ℤ u +ℤ a2 *ℤ v) (a3 *ℤ w) k,
      sum_times (a1 *ℤ u) (a2 *ℤ v) k,
      sum_times (b1 *ℤ u +ℤ b2 *ℤ v) (b3 *ℤ w) j,
      sum_times (b1 *ℤ u) (b2 *ℤ v) j,
    )

-- the start at column 0 of row 0, as the code computes it
pub start_is : (a b c x0 y0 m : ℕ) → (turns : ℤ) ×
    (pos ((((a + 2 * m) % 2 ^ 64 + 2 ^ 64 - (x0 * b) % 2 ^ 64) % 2 ^ 64 + 2 ^ 64 - (y0 * c) % 2 ^ 64) % 2 ^ 64) +ℤ turns *ℤ pos (2 ^ 64) ≡ pos a +ℤ pos (2 * m) -ℤ pos (x0 * b) -ℤ pos (y0 * c))
start_is a b c x0 y0 m =
    let s1 = (a + 2 * m) % 2 ^ 64 in
    let t = s1 + 2 ^ 64 - (x0 * b) % 2 ^ 64 in
    let u = t % 2 ^ 64 + 2 ^ 64 - (y0 * c) % 2 ^ 64 in
    (pos ((a + 2 * m) / 2 ^ 64) -ℤ pos 2 -ℤ pos (x0 * b / 2 ^ 64) +ℤ pos (t / 2 ^ 64) -ℤ pos (y0 * c / 2 ^ 64) +ℤ pos (u / 2 ^ 64), omega (arith, ints, product_is))

-- turns that are left out
value_turns : (na nb nc ta tb tc k j m ts : ℤ) (a b c x y x0 y0 start : ℕ) →
    na ≡ pos a +ℤ ta *ℤ pos (2 ^ 64) → nb ≡ pos b +ℤ tb *ℤ pos (2 ^ 64) → nc ≡ pos c +ℤ tc *ℤ pos (2 ^ 64) →
    k ≡ pos x -ℤ pos x0 → j ≡ pos y -ℤ pos y0 →
    pos start +ℤ ts *ℤ pos (2 ^ 64) ≡ pos a +ℤ m -ℤ pos (x0 * b) -ℤ pos (y0 * c) →
    na +ℤ m +ℤ nb *ℤ k +ℤ nc *ℤ j ≡ pos ((start + x * b + y * c) % 2 ^ 64) +ℤ (ts +ℤ ta +ℤ tb *ℤ k +ℤ tc *ℤ j +ℤ pos ((start + x * b + y * c) / 2 ^ 64)) *ℤ pos (2 ^ 64)
value_turns na nb nc ta tb tc k j m ts a b c x y x0 y0 start ha hb hc hk hj hs =
    omega (
      arith,
      ints,
      ha,
      hs,
      ap (λ w. w *ℤ k) hb,
      ap (λ w. w *ℤ j) hc,
      sum_times (pos b) (tb *ℤ pos (2 ^ 64)) k,
      sum_times (pos c) (tc *ℤ pos (2 ^ 64)) j,
      swap_last tb (pos (2 ^ 64)) k,
      swap_last tc (pos (2 ^ 64)) j,
      ap (λ w. pos b *ℤ w) hk,
      ap (λ w. pos c *ℤ w) hj,
      times_difference (pos b) (pos x) (pos x0),
      times_difference (pos c) (pos y) (pos y0),
      sum_times (ts +ℤ ta +ℤ tb *ℤ k +ℤ tc *ℤ j) (pos ((start + x * b + y * c) / 2 ^ 64)) (pos (2 ^ 64)),
      sum_times (ts +ℤ ta +ℤ tb *ℤ k) (tc *ℤ j) (pos (2 ^ 64)),
      sum_times (ts +ℤ ta) (tb *ℤ k) (pos (2 ^ 64)),
      sum_times ts ta (pos (2 ^ 64)),
      div-add-mod' (start + x * b + y * c) (2 ^ 64),
    )

-- the sum at a pixel from the sum at another
pub sum_at : (t : Triangle ScreenVertex) (u v w : ℤ) (x y x0 y0 : ℕ) (ea eb ec ra rb rc da db dc : ℤ) →
    ea ≡ edge t.b t.c x0 y0 → eb ≡ edge t.c t.a x0 y0 → ec ≡ edge t.a t.b x0 y0 →
    ra ≡ pos 0 -ℤ pos 256 *ℤ (t.c.y -ℤ t.b.y) → rb ≡ pos 0 -ℤ pos 256 *ℤ (t.a.y -ℤ t.c.y) → rc ≡ pos 0 -ℤ pos 256 *ℤ (t.b.y -ℤ t.a.y) →
    da ≡ pos 256 *ℤ (t.c.x -ℤ t.b.x) → db ≡ pos 256 *ℤ (t.a.x -ℤ t.c.x) → dc ≡ pos 256 *ℤ (t.b.x -ℤ t.a.x) →
    edge t.b t.c x y *ℤ u +ℤ edge t.c t.a x y *ℤ v +ℤ edge t.a t.b x y *ℤ w
    ≡ (ea *ℤ u +ℤ eb *ℤ v +ℤ ec *ℤ w) +ℤ (ra *ℤ u +ℤ rb *ℤ v +ℤ rc *ℤ w) *ℤ (pos x -ℤ pos x0) +ℤ (da *ℤ u +ℤ db *ℤ v +ℤ dc *ℤ w) *ℤ (pos y -ℤ pos y0)
sum_at t u v w x y x0 y0 ea eb ec ra rb rc da db dc hea heb hec hra hrb hrc hda hdb hdc =
    let k = pos x -ℤ pos x0 in
    let j = pos y -ℤ pos y0 in
    (λ i. edge_line t.b t.c x y x0 y0 i *ℤ u +ℤ edge_line t.c t.a x y x0 y0 i *ℤ v +ℤ edge_line t.a t.b x y x0 y0 i *ℤ w)
    ∙ sym (λ i. (hea i +ℤ hra i *ℤ k +ℤ hda i *ℤ j) *ℤ u +ℤ (heb i +ℤ hrb i *ℤ k +ℤ hdb i *ℤ j) *ℤ v +ℤ (hec i +ℤ hrc i *ℤ k +ℤ hdc i *ℤ j) *ℤ w)
    ∙ sum_line ea eb ec ra rb rc da db dc k j u v w

-- the floor of the mean at a pixel, by the numbers from which it is stepped
pub mean_floor : (t : Triangle ScreenVertex) (u v w z : ℤ) (n x y : ℕ) → pos n ≡ area t → 0 < n →
    edge t.b t.c x y *ℤ u +ℤ edge t.c t.a x y *ℤ v +ℤ edge t.a t.b x y *ℤ w ≡ z → IsFloor z (weighted t x y u v w) n
mean_floor t u v w z n x y h pn e =
    let sum = edge t.b t.c x y *ℤ u +ℤ edge t.c t.a x y *ℤ v +ℤ edge t.a t.b x y *ℤ w in
    let size : unsigned_abs (area t) ≡ n = ap unsigned_abs (sym h) in
    let f : IsFloor sum (int_div_euclid sum (pos n)) n = floor_is sum n pn in
    let g : IsFloor z (int_div_euclid sum (pos n)) n = record { rest = f.rest; below = f.below; is = sym e ∙ f.is } in
    let same : int_div_euclid sum (pos n) ≡ weighted t x y u v w = ap (λ k. int_div_euclid sum (pos k)) (sym size) in
    record { rest = g.rest; below = g.below; is = g.is ∙ ap (λ q. q *ℤ pos n +ℤ pos g.rest) same }

pub ramp_is : (t : Triangle ScreenVertex) (u v w : ℤ) (n s m x0 y0 x y : ℕ) (ea eb ec ra rb rc da db dc : ℤ) (r : Ramp) (a : ℕ) →
    pos n ≡ area t → 0 < n →
    ea ≡ edge t.b t.c x0 y0 → eb ≡ edge t.c t.a x0 y0 → ec ≡ edge t.a t.b x0 y0 →
    ra ≡ pos 0 -ℤ pos 256 *ℤ (t.c.y -ℤ t.b.y) → rb ≡ pos 0 -ℤ pos 256 *ℤ (t.a.y -ℤ t.c.y) → rc ≡ pos 0 -ℤ pos 256 *ℤ (t.b.y -ℤ t.a.y) →
    da ≡ pos 256 *ℤ (t.c.x -ℤ t.b.x) → db ≡ pos 256 *ℤ (t.a.x -ℤ t.c.x) → dc ≡ pos 256 *ℤ (t.b.x -ℤ t.a.x) →
    IsSlope (ea *ℤ u +ℤ eb *ℤ v +ℤ ec *ℤ w) a n s → IsSlope (ra *ℤ u +ℤ rb *ℤ v +ℤ rc *ℤ w) r.right n s → IsSlope (da *ℤ u +ℤ db *ℤ v +ℤ dc *ℤ w) r.down n s →
    1 + unsigned_abs (pos x -ℤ pos x0) + unsigned_abs (pos y -ℤ pos y0) ≤ m → 4 * m * n ≤ s →
    (turns : ℤ) × (pos r.start +ℤ turns *ℤ pos (2 ^ 64) ≡ pos a +ℤ pos (2 * m) -ℤ pos (x0 * r.right) -ℤ pos (y0 * r.down)) →
    IsRamp r t u v w s x y
ramp_is t u v w n s m x0 y0 x y ea eb ec ra rb rc da db dc r a h pn hea heb hec hra hrb hrc hda hdb hdc sa sb sc hm hs st =
    let k = pos x -ℤ pos x0 in
    let j = pos y -ℤ pos y0 in
    let f = mean_floor t u v w ((ea *ℤ u +ℤ eb *ℤ v +ℤ ec *ℤ w) +ℤ (ra *ℤ u +ℤ rb *ℤ v +ℤ rc *ℤ w) *ℤ k +ℤ (da *ℤ u +ℤ db *ℤ v +ℤ dc *ℤ w) *ℤ j) n x y h pn
    (sum_at t u v w x y x0 y0 ea eb ec ra rb rc da db dc hea heb hec hra hrb hrc hda hdb hdc) in
    let g = nearly_exact (ea *ℤ u +ℤ eb *ℤ v +ℤ ec *ℤ w) (ra *ℤ u +ℤ rb *ℤ v +ℤ rc *ℤ w) (da *ℤ u +ℤ db *ℤ v +ℤ dc *ℤ w) sa.number sb.number sc.number (weighted t x y u v w) k j n s m pn sa.near sb.near sc.near hm hs f in
    let turned = value_turns sa.number sb.number sc.number sa.turns sb.turns sc.turns k j (pos (2 * m)) st.0 a r.right r.down x y x0 y0 r.start sa.low sb.low sc.low refl refl st.1 in
    record {
      turns = st.0 +ℤ sa.turns +ℤ sb.turns *ℤ k +ℤ sc.turns *ℤ j +ℤ pos ((r.start + x * r.right + y * r.down) / 2 ^ 64);
      floor = record { rest = g.rest; below = g.below; is = sym turned ∙ g.is };
    }
