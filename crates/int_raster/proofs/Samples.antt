-- A texture repeats, so whole units of a position do not matter.
use Rattle.std.proofs.Common.{◌≡◌, ℕ, ◌-◌, ◌*◌, ◌/◌, ◌%◌, ◌<◌, ◌≤◌, ◌^◌, ◌+◌, List, [], length, slice_index, slice_index_or, subst, ap, sym, ◌∙◌, refl, arith}
use Rattle.std.specs.Prelude.{ℤ, pos, negsuc, ◌+ℤ◌, ◌*ℤ◌}
use Rattle.std.specs.Int.{int_div_euclid, int_rem_euclid}
use Rattle.std.proofs.lemmas.Int.{ints}
use Rattle.std.proofs.lemmas.List.{get_or_default}
use Rattle.std.proofs.lemmas.Nat.{div-add-mod', div_below, mul-le, mul-add-lt}
use Rattle.std.proofs.Math.Nat.{mod-lt, mod-eq_of_lt, mul-le-mul_right}
use borrow.Author.Differences.{product_is}
use Rattle.gfx_model.specs.Number.{at_least_zero}
use Rattle.gfx_model.specs.Raster.{Texels, wrapped, sample, texel_at, no_color}
use Rattle.tri_cover.specs.Slope.{IsFloor, IsSamePlace}
use Rattle.tri_cover.proofs.Barycentre.{swap_last}
use Rattle.tri_cover.proofs.Fixed.{floor_is, one_floor, sum_times}
use Rattle.int_raster.specs.declared.samplers.Sampler.{Sampler}
use Rattle.int_raster.specs.declared.samplers.Sides.{Sides}
use Rattle.int_raster.specs.Sampled.{sampler_seen, AreSides}

record Rest (z : ℤ) (n : ℕ) : Type 0 where
  times : ℤ
  rest : ℕ
  is_rest : int_rem_euclid z (pos n) ≡ pos rest
  below : rest < n
  is : z ≡ times *ℤ pos n +ℤ pos rest

rest_is : (z : ℤ) (n : ℕ) → 0 < n → Rest z n
rest_is (pos a) n h = record { times = pos (a / n); rest = a % n; is_rest = refl; below = mod-lt a h; is = ap pos (sym (div-add-mod' a n)) }
rest_is (negsuc a) n h = record { times = int_div_euclid (negsuc a) (pos n); rest = n - 1 - a % n; is_rest = refl; below = omega arith; is = omega (arith, ints, product_is, div-add-mod' a n, mod-lt a h) }

-- whole turns leave the rest
rest_same : (z k : ℤ) (n : ℕ) → 0 < n → int_rem_euclid (z +ℤ k *ℤ pos n) (pos n) ≡ int_rem_euclid z (pos n)
rest_same z k n h =
    let a = rest_is (z +ℤ k *ℤ pos n) n h in
    let b = rest_is z n h in
    let f : IsFloor (z +ℤ k *ℤ pos n) a.times n = record { rest = a.rest; below = a.below; is = a.is } in
    let g : IsFloor (z +ℤ k *ℤ pos n) (b.times +ℤ k) n = record { rest = b.rest; below = b.below; is = omega (arith, ints, b.is, sum_times b.times k (pos n)) } in
    let same : a.times ≡ b.times +ℤ k = one_floor (z +ℤ k *ℤ pos n) a.times (b.times +ℤ k) n f g in
    let rests : a.rest ≡ b.rest = omega (arith, ints, a.is, b.is, ap (λ w. w *ℤ pos n) same, sum_times b.times k (pos n)) in
    a.is_rest ∙ ap pos rests ∙ sym b.is_rest

wrapped_same : (u : ℤ) (a n : ℕ) → 0 < n → IsSamePlace a u → wrapped u n ≡ wrapped (pos a) n
wrapped_same u a n h p =
    let f = floor_is (pos a *ℤ pos n) 65536 (omega arith) in
    let q = int_div_euclid (pos a *ℤ pos n) (pos 65536) in
    let g : IsFloor (u *ℤ pos n) (q +ℤ p.0 *ℤ pos n) 65536 =
    record {
      rest = f.rest;
      below = f.below;
      is = omega (arith, ints, f.is, ap (λ w. w *ℤ pos n) p.1, sum_times (pos a) (p.0 *ℤ pos 65536) (pos n), swap_last p.0 (pos 65536) (pos n), sum_times q (p.0 *ℤ pos n) (pos 65536));
    } in
    let floor : int_div_euclid (u *ℤ pos n) (pos 65536) ≡ q +ℤ p.0 *ℤ pos n =
    one_floor (u *ℤ pos n) (int_div_euclid (u *ℤ pos n) (pos 65536)) (q +ℤ p.0 *ℤ pos n) 65536 (floor_is (u *ℤ pos n) 65536 (omega arith)) g in
    ap (λ w. at_least_zero (int_rem_euclid w (pos n))) floor ∙ ap at_least_zero (rest_same q p.0 n h)

pub sample_same : (t : Texels) (u v : ℤ) (a b : ℕ) → 0 < t.width → 0 < t.height → IsSamePlace a u → IsSamePlace b v → sample t (pos a) (pos b) ≡ sample t u v
sample_same t u v a b w h p q = sym (λ i. texel_at t (wrapped_same u a t.width w p i) (wrapped_same v b t.height h q i))

-- ---- positions within one unit

pub place_within : (u n : ℕ) → u < 65536 → 0 < n → u * n / 65536 < n
place_within u n h p = div_below (u * n) 65536 n (omega arith) (omega (arith, mul-le-mul_right n h))

pub wrapped_within : (u n : ℕ) → u < 65536 → 0 < n → wrapped (pos u) n ≡ u * n / 65536
wrapped_within u n h p = mod-eq_of_lt (place_within u n h p)

pub sample_within : (t : Texels) (u v : ℕ) → u < 65536 → v < 65536 → 0 < t.width → 0 < t.height → sample t (pos u) (pos v) ≡ texel_at t (u * t.width / 65536) (v * t.height / 65536)
sample_within t u v hu hv w h = λ i. texel_at t (wrapped_within u t.width hu w i) (wrapped_within v t.height hv h i)

-- the part of a position within one unit
pub unit_part_same : (a : ℕ) (v : ℤ) → IsSamePlace a v → IsSamePlace (a % 65536) v
unit_part_same a v f = (f.0 +ℤ pos (a / 65536), omega (arith, ints, product_is, f.1))

-- ---- texels by their numbers

-- the number of the texel at a position within one unit
abbrev number_at : Sampler → (u v : ℕ) → ℕ
number_at s u v = v * s.height / 65536 * s.width + u * s.width / 65536

number_within : (s : Sampler) (u v : ℕ) → u < 65536 → v < 65536 → number_at s u v < length s.texels.now
number_within s u v h k =
    let inside : number_at s u v < s.width * s.height = mul-add-lt (v * s.height / 65536) s.width (u * s.width / 65536) s.height (place_within v s.height k (omega (arith, s.high))) (place_within u s.width h (omega (arith, s.wide))) in
    rw s.whole inside

texel_there : (s : Sampler) (u v : ℕ) → u < 65536 → v < 65536 → slice_index_or s.texels.now (number_at s u v) [] ≡ sample (sampler_seen s) (pos u) (pos v)
texel_there s u v h k =
    get_or_default s.texels.now (number_at s u v) [] no_color (number_within s u v h k)
    ∙ sym (sample_within (sampler_seen s) u v h k (omega (arith, s.wide)) (omega (arith, s.high)))

-- it has fewer than 32 bits
number_small : (s : Sampler) (u v : ℕ) → u < 65536 → v < 65536 → number_at s u v < 2 ^ 32
number_small s u v h k =
    let few : s.width * s.height ≤ 2048 * 2048 = mul-le s.width s.height 2048 2048 s.narrow s.low in
    omega (arith, s.whole, few, number_within s u v h k)

-- the number by a word of a column and a row
number_is : (s : Sampler) (u v word : ℕ) → u < 65536 → v < 65536 → word ≡ u * s.width / 65536 + 65536 * (v * s.height / 65536)
    → (word / 65536 * s.width + word % 65536) % 2 ^ 32 ≡ number_at s u v
number_is s u v word h k e =
    let column : u * s.width / 65536 < s.width = place_within u s.width h (omega (arith, s.wide)) in
    let upper : word / 65536 ≡ v * s.height / 65536 = omega (arith, e, column, s.narrow) in
    let lower : word % 65536 ≡ u * s.width / 65536 = omega (arith, e, column, s.narrow) in
    (λ i. (upper i * s.width + lower i) % 2 ^ 32) ∙ mod-eq_of_lt (number_small s u v h k)

module _ (s : Sampler) (d : Sides) (at places words numbers : List ℕ) (sides : AreSides d s) (small : (j : ℕ) → j < 8 → slice_index at j < 65536)
    (scaled : (j : ℕ) → j < 8 → slice_index places j ≡ slice_index at j * slice_index d.both j / 2 ^ 16)
    (paired : (j : ℕ) → j < 4 → slice_index words j ≡ slice_index places (2 * j) + 2 ^ 16 * slice_index places (2 * j + 1))
    (summed : (j : ℕ) → j < 4 → slice_index numbers j ≡ (slice_index words j / 2 ^ 16 * slice_index d.width j + slice_index words j % 2 ^ 16) % 2 ^ 32) where
  abbrev u : ℕ → ℕ
  u j = slice_index at (2 * j)

  abbrev v : ℕ → ℕ
  v j = slice_index at (2 * j + 1)

  u_small : (j : ℕ) → j < 4 → u j < 65536
  u_small j h = small (2 * j) (omega (arith, h))

  v_small : (j : ℕ) → j < 4 → v j < 65536
  v_small j h = small (2 * j + 1) (omega (arith, h))

  -- the numbers of four texels, in lanes
  numbers_are : (j : ℕ) → j < 4 → slice_index numbers j ≡ number_at s (u j) (v j)
  numbers_are j h =
      let word = slice_index words j in
      let column : slice_index places (2 * j) ≡ u j * s.width / 65536 = scaled (2 * j) (omega (arith, h)) ∙ ap (λ n. u j * n / 65536) (sides.widths j h) in
      let row : slice_index places (2 * j + 1) ≡ v j * s.height / 65536 = scaled (2 * j + 1) (omega (arith, h)) ∙ ap (λ n. v j * n / 65536) (sides.heights j h) in
      let whole : word ≡ u j * s.width / 65536 + 65536 * (v j * s.height / 65536) = paired j h ∙ (λ i. column i + 65536 * row i) in
      summed j h ∙ ap (λ n. (word / 65536 * n + word % 65536) % 2 ^ 32) (sides.width j h) ∙ number_is s (u j) (v j) word (u_small j h) (v_small j h) whole

  pub numbers_within : (j : ℕ) → j < 4 → slice_index numbers j < length s.texels.now
  numbers_within j h = subst (λ n. n < length s.texels.now) (sym (numbers_are j h)) (number_within s (u j) (v j) (u_small j h) (v_small j h))

  -- the texels of these numbers
  pub texels_are : (j : ℕ) → j < 4 → slice_index_or s.texels.now (slice_index numbers j) [] ≡ sample (sampler_seen s) (pos (u j)) (pos (v j))
  texels_are j h = ap (λ n. slice_index_or s.texels.now n []) (numbers_are j h) ∙ texel_there s (u j) (v j) (u_small j h) (v_small j h)
