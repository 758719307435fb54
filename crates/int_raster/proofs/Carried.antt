-- Values of 128 bits whose upper bits are stepped alone.
use Rattle.std.proofs.Common.{◌≡◌, ◌≤◌, ◌<◌, ℕ, ◌+◌, ◌-◌, ◌*◌, ◌/◌, ◌%◌, ◌^◌, List, [], ◌∷◌, slice_index, max, false, ◌&&◌, nat_le, nat_lt, refl, ap, sym, subst, ◌∙◌, arith}
use Rattle.std.proofs.lemmas.Nat.{div_below}
use Rattle.std.proofs.lemmas.Bool.{cases_lt}
use Rattle.std.proofs.Math.Nat.{div-add-mod, mul-add-div, mul-le-mul_left, mod-lt}
use Rattle.std.specs.Prelude.{pos}
use Rattle.gfx_model.specs.Raster.{Texels, sample}
use Rattle.gfx_model.specs.Vertex.{Color}
use Rattle.tri_cover.specs.declared.ramps.WideRamp.{WideRamp}
use Rattle.tri_cover.specs.Widened.{wide_at, wide_whole}
use Rattle.int_raster.specs.Painted.{place_at, HoldsDepths, AreDepths}
use Rattle.int_raster.specs.declared.painters.Place.{Place}
use Rattle.int_raster.specs.Placed.{middle, AreBits}
use Rattle.int_raster.proofs.Ramped.{wide_more}
use Rattle.int_raster.proofs.Vectors.{below_two, below_four}
use Rattle.int_raster.proofs.Windows.{not_within_low}
use mathlib.Core.Logic.{inl, inr}

-- a value of 64 bits so many steps on
abbrev pub short_at : (first by k : ℕ) → ℕ
short_at first by k = (first + k * by) % 2 ^ 64

-- what the lower parts of a number and of so many steps carry to the upper ones
abbrev carry : (p w d k : ℕ) → ℕ
carry p w d k = (w % p + k * (d % p)) / p

-- no more than one a step
few_carried : (p w d k : ℕ) → 0 < p → carry p w d k < k + 1
few_carried p w d k h =
    let rest : d % p ≤ p - 1 = omega (arith, mod-lt d h) in
    let one : p ≡ p - 1 + 1 = omega (arith, h) in
    div_below (w % p + k * (d % p)) p (k + 1) h (omega (arith, h, mod-lt w h, mul-le-mul_left k rest, ap (λ z. k * z) one))

-- the upper part so many steps on
upper_is : (p w d k : ℕ) → 0 < p → (w + k * d) / p ≡ w / p + k * (d / p) + carry p w d k
upper_is p w d k h =
    let all : w + k * d ≡ p * (w / p + k * (d / p)) + (w % p + k * (d % p)) = omega (arith, div-add-mod w p, ap (λ z. k * z) (div-add-mod d p)) in
    ap (λ z. z / p) all ∙ mul-add-div h (w / p + k * (d / p)) (w % p + k * (d % p))

-- a carry that stays below the whole part of a depth
depth_stays : (m c : ℕ) → c < 2 ^ 16 → m % 2 ^ 64 % 2 ^ 32 < 2 ^ 32 - 2 ^ 16 → (m + c) % 2 ^ 64 / 2 ^ 40 ≡ m % 2 ^ 64 / 2 ^ 40
depth_stays m c h l = omega (arith, h, l)

-- the whole part of a depth by its upper half
halves_of_all : (n : ℕ) → n % 2 ^ 128 / 2 ^ 104 ≡ n / 2 ^ 64 % 2 ^ 64 / 2 ^ 40
halves_of_all n = omega arith

-- the depth by the upper half alone
pub depth_is : (w d k n by : ℕ) → w / 2 ^ 64 ≡ n → d / 2 ^ 64 ≡ by → k < 2 ^ 16 → (n + k * by) % 2 ^ 64 % 2 ^ 32 < 2 ^ 32 - 2 ^ 16
    → (n + k * by) % 2 ^ 64 / 2 ^ 40 ≡ (w + k * d) % 2 ^ 128 / 2 ^ 104
depth_is w d k n by e f h l =
    let few = few_carried (2 ^ 64) w d k (omega arith) in
    let c = carry (2 ^ 64) w d k in
    let sum : (w + k * d) / 2 ^ 64 ≡ n + k * by + c = upper_is (2 ^ 64) w d k (omega arith) ∙ (λ i. e i + k * f i + c) in
    sym (halves_of_all (w + k * d) ∙ ap (λ z. z % 2 ^ 64 / 2 ^ 40) sum ∙ depth_stays (n + k * by) c (omega (arith, few, h)) l)

-- a carry that stays behind the point of a position
place_stays : (m c : ℕ) → c < 2 ^ 16 → m % 2 ^ 64 / 2 ^ 32 % 2 ^ 16 < 65535 → (m + c) % 2 ^ 64 / 2 ^ 48 ≡ m % 2 ^ 64 / 2 ^ 48
place_stays m c h l = omega (arith, h, l)

middle_of_all : (n : ℕ) → n % 2 ^ 128 / 2 ^ 104 % 65536 ≡ n / 2 ^ 56 % 2 ^ 64 / 2 ^ 48
middle_of_all n = omega arith

-- whole turns of a number that is stepped do not matter
turns_lost : (a e k c : ℕ) → (a + k * e + c) % 2 ^ 64 ≡ (a % 2 ^ 64 + k * (e % 2 ^ 64) + c) % 2 ^ 64
turns_lost a e k c = omega (arith, ap (λ z. k * z) (div-add-mod e (2 ^ 64)))

-- the position by its middle bits alone
pub position_is : (w d k : ℕ) → k < 2 ^ 16 → short_at (middle w) (middle d) k / 2 ^ 32 % 2 ^ 16 < 65535
    → short_at (middle w) (middle d) k / 2 ^ 48 ≡ (w + k * d) % 2 ^ 128 / 2 ^ 104 % 65536
position_is w d k h l =
    let few = few_carried (2 ^ 56) w d k (omega arith) in
    let c = carry (2 ^ 56) w d k in
    let sum : (w + k * d) / 2 ^ 56 % 2 ^ 64 ≡ (middle w + k * middle d + c) % 2 ^ 64 =
    ap (λ z. z % 2 ^ 64) (upper_is (2 ^ 56) w d k (omega arith)) ∙ turns_lost (w / 2 ^ 56) (d / 2 ^ 56) k c in
    sym (middle_of_all (w + k * d) ∙ ap (λ z. z / 2 ^ 48) sum ∙ place_stays (middle w + k * middle d) c (omega (arith, few, h)) l)

-- ---- four columns at a time

-- what holds of the columns before, and of four more
pub four_more : (P : ℕ → Type 0) (k m : ℕ) → m ≡ k + 4 → ((i : ℕ) → i < k → P i) → ((j : ℕ) → j < 4 → P (k + j)) → (i : ℕ) → i < m → P i
four_more P k m e before here i h = elim (cases_lt i k) [
  | inl low ↦ before i low
  | inr high ↦
      let place : k + (i - k) ≡ i = omega (arith, high) in
      subst P place (here (i - k) (omega (arith, e, h, high)))
]

-- what holds of two columns and of the two behind them
pub two_and_two : (P : ℕ → ℕ → Type 0) (k : ℕ) → ((j : ℕ) → j < 2 → P j (k + j)) → ((j : ℕ) → j < 2 → P (2 + j) (k + 2 + j)) → (j : ℕ) → j < 4 → P j (k + j)
two_and_two P k front back =
    let third : k + 2 + 0 ≡ k + 2 = omega arith in
    let fourth : k + 2 + 1 ≡ k + 3 = omega arith in
    below_four (λ j. P j (k + j)) (front 0 (omega arith)) (front 1 (omega arith)) (subst (P 2) third (back 0 (omega arith))) (subst (P 3) fourth (back 1 (omega arith)))

-- two values four columns on
pub two_on : (first by k m : ℕ) (here next : List ℕ) → m ≡ k + 4 → ((j : ℕ) → j < 2 → slice_index here j ≡ short_at first by (k + j))
    → ((j : ℕ) → j < 2 → slice_index next j ≡ (slice_index here j + slice_index (by * 4 % 2 ^ 64 ∷ by * 4 % 2 ^ 64 ∷ []) j) % 2 ^ 64)
    → (j : ℕ) → j < 2 → slice_index next j ≡ short_at first by (m + j)
two_on first by k m here next e at step j h =
    let place : k + j + 4 ≡ m + j = omega (arith, e) in
    step j h ∙ (λ i. (at j h i + splat j h i) % 2 ^ 64) ∙ moved first by (k + j) ∙ ap (short_at first by) place
  where
    splat : (j : ℕ) → j < 2 → slice_index (by * 4 % 2 ^ 64 ∷ by * 4 % 2 ^ 64 ∷ []) j ≡ by * 4 % 2 ^ 64
    splat = below_two (λ j. slice_index (by * 4 % 2 ^ 64 ∷ by * 4 % 2 ^ 64 ∷ []) j ≡ by * 4 % 2 ^ 64) refl refl

    moved : (first by k : ℕ) → ((first + k * by) % 2 ^ 64 + by * 4 % 2 ^ 64) % 2 ^ 64 ≡ (first + (k + 4) * by) % 2 ^ 64
    moved first by k = omega arith

-- numbers of a list, of which four are put at once
pub numbers_more : (f : ℕ → ℕ) (k m : ℕ) (old new four : List ℕ) → m ≡ k + 4 → ((i : ℕ) → i < k → slice_index old i ≡ f i)
    → ((j : ℕ) → j < 4 → slice_index new (k + j) ≡ slice_index four j) → ((i : ℕ) → (nat_le k i && nat_lt i (k + 4)) ≡ false → slice_index new i ≡ slice_index old i)
    → ((j : ℕ) → j < 4 → slice_index four j ≡ f (k + j)) → (i : ℕ) → i < m → slice_index new i ≡ f i
numbers_more f k m old new four e before put others here =
    four_more (λ i. slice_index new i ≡ f i) k m e
    (λ i h. others i (not_within_low k i h) ∙ before i h)
    (λ j h. put j h ∙ here j h)

-- ---- the columns of a piece

-- a wide ramp so many columns on
pub wide_ahead : (r : WideRamp) (first x y start : ℕ) → start ≡ wide_at r first y → first ≤ x → (start + (x - first) * r.right) % 2 ^ 128 ≡ wide_at r x y
wide_ahead r first x y start e h =
    let place : first + (x - first) ≡ x = omega (arith, h) in
    ap (λ n. (n + (x - first) * r.right) % 2 ^ 128) e ∙ ahead r.start first (x - first) r.right (y * r.down) ∙ ap (λ n. wide_at r n y) place
  where
    ahead : (s x k r d : ℕ) → ((s + x * r + d) % 2 ^ 128 + k * r) % 2 ^ 128 ≡ (s + (x + k) * r + d) % 2 ^ 128
    ahead s x k r d = omega arith

-- depths that are right in each column of a piece
pub depths_right : (r : WideRamp) (y first after start : ℕ) (depths : List ℕ) → start ≡ wide_at r first y
    → ((k : ℕ) → k < after - first → slice_index depths k ≡ (start + k * r.right) % 2 ^ 128 / 2 ^ 104) → HoldsDepths depths (λ x. wide_whole r x y) first after
depths_right r y first after start depths e h x lo hi = h (x - first) (omega (arith, lo, hi)) ∙ ap (λ n. n / 2 ^ 104) (wide_ahead r first x y start e lo)

-- they have 24 bits
pub depths_few : (r : WideRamp) (y first after : ℕ) (depths : List ℕ) → HoldsDepths depths (λ x. wide_whole r x y) first after → AreDepths depths first after
depths_few r y first after depths h x lo hi = omega (arith, h x lo hi)

-- a wide ramp's position by its middle bits, so many columns on
abbrev pub position_at : WideRamp → (first y k : ℕ) → ℕ
position_at r first y k = short_at (middle (wide_at r first y)) (middle r.right) k

-- it is right in a column where its fraction has room
pub position_right : (r : WideRamp) (first y x : ℕ) → first ≤ x → x - first < 2 ^ 16 → position_at r first y (x - first) / 2 ^ 32 % 2 ^ 16 < 65535
    → position_at r first y (x - first) / 2 ^ 48 ≡ place_at r x y
position_right r first y x lo h l = position_is (wide_at r first y) r.right (x - first) h l ∙ ap (λ n. n / 2 ^ 104 % 65536) (wide_ahead r first x y (wide_at r first y) refl lo)

-- the largest fraction of four positions
abbrev pub top_of : List ℕ → ℕ
top_of most = max (max (slice_index most 0) (slice_index most 2)) (max (slice_index most 4) (slice_index most 6))

-- it grows with each lane
pub top_grows : (most inner next : List ℕ) → ((j : ℕ) → j < 8 → slice_index next j ≡ max (slice_index most j) (slice_index inner j)) → top_of most ≤ top_of next
top_grows most inner next e =
    let e0 = e 0 (omega arith) in
    let e2 = e 2 (omega arith) in
    let e4 = e 4 (omega arith) in
    let e6 = e 6 (omega arith) in
    omega (arith, e0, e2, e4, e6)

-- no fraction of eight is larger
pub within_top : (a b inner most next : List ℕ) → ((j : ℕ) → j < 8 → slice_index inner j ≡ max (slice_index a j) (slice_index b j))
    → ((j : ℕ) → j < 8 → slice_index next j ≡ max (slice_index most j) (slice_index inner j))
    → (j : ℕ) → j < 4 → (slice_index a (2 * j) ≤ top_of next) × (slice_index b (2 * j) ≤ top_of next)
within_top a b inner most next e f = below_four (λ j. (slice_index a (2 * j) ≤ top_of next) × (slice_index b (2 * j) ≤ top_of next)) (lane 0 (omega arith) first) (lane 2 (omega arith) second) (lane 4 (omega arith) third) (lane 6 (omega arith) last)
  where
    first : slice_index next 0 ≤ top_of next
    first = omega arith

    second : slice_index next 2 ≤ top_of next
    second = omega arith

    third : slice_index next 4 ≤ top_of next
    third = omega arith

    last : slice_index next 6 ≤ top_of next
    last = omega arith

    lane : (j : ℕ) → j < 8 → slice_index next j ≤ top_of next → (slice_index a j ≤ top_of next) × (slice_index b j ≤ top_of next)
    lane j h l = (omega (arith, e j h, f j h, l), omega (arith, e j h, f j h, l))

-- a position one column on
position_on : (r : WideRamp) (first y k m at step next : ℕ) → m ≡ k + 1 → at ≡ position_at r first y k → step ≡ middle r.right → next ≡ (at + step) % 2 ^ 64 → next ≡ position_at r first y m
position_on r first y k m at step next place e s n =
    n ∙ (λ i. (e i + s i) % 2 ^ 64) ∙ moved (middle (wide_at r first y)) k (middle r.right) ∙ ap (position_at r first y) (sym place)
  where
    moved : (s k d : ℕ) → ((s + k * d) % 2 ^ 64 + d) % 2 ^ 64 ≡ (s + (k + 1) * d) % 2 ^ 64
    moved s k d = omega arith

-- four positions side by side, and the next one
pub record ArePositions (r : WideRamp) (first y k a b c d e : ℕ) : Type 0 where
  pub first_of_all : a ≡ position_at r first y (k + 0)
  pub second : b ≡ position_at r first y (k + 1)
  pub third : c ≡ position_at r first y (k + 2 + 0)
  pub fourth : d ≡ position_at r first y (k + 2 + 1)
  pub next : e ≡ position_at r first y (k + 4)

pub four_positions : (r : WideRamp) (first y k a b c d e step : ℕ) → a ≡ position_at r first y k → step ≡ middle r.right
    → b ≡ (a + step) % 2 ^ 64 → c ≡ (b + step) % 2 ^ 64 → d ≡ (c + step) % 2 ^ 64 → e ≡ (d + step) % 2 ^ 64 → ArePositions r first y k a b c d e
four_positions r first y k a b c d e step ha s hb hc hd he =
    let here : k ≡ k + 0 = omega arith in
    let pb = position_on r first y k (k + 1) a step b refl ha s hb in
    let pc = position_on r first y (k + 1) (k + 2 + 0) b step c (omega arith) pb s hc in
    let pd = position_on r first y (k + 2 + 0) (k + 2 + 1) c step d (omega arith) pc s hd in
    record {
      first_of_all = ha ∙ ap (position_at r first y) here;
      second = pb;
      third = pc;
      fourth = pd;
      next = position_on r first y (k + 2 + 1) (k + 4) d step e (omega arith) pd s he;
    }

-- the texel of a lane
pub lane_texel : (t : Texels) (word : Color) (x y p q u v : ℕ) → word ≡ sample t (pos (x / 2 ^ 16)) (pos (y / 2 ^ 16)) → x ≡ p / 2 ^ 32 → y ≡ q / 2 ^ 32 → p ≡ u → q ≡ v
    → word ≡ sample t (pos (u / 2 ^ 48)) (pos (v / 2 ^ 48))
lane_texel t word x y p q u v e hx hy hp hq =
    let column : x / 2 ^ 16 ≡ u / 2 ^ 48 = omega (arith, hx, hp) in
    let row : y / 2 ^ 16 ≡ v / 2 ^ 48 = omega (arith, hy, hq) in
    e ∙ (λ i. sample t (pos (column i)) (pos (row i)))

-- the fraction of a lane
pub lane_low : (top v p x lane : ℕ) → p ≡ v → x ≡ p / 2 ^ 32 → lane ≡ x % 2 ^ 16 → lane ≤ top → v / 2 ^ 32 % 2 ^ 16 ≤ top
lane_low top v p x lane e f g h = omega (arith, e, f, g, h)

pub below_all : (most : List ℕ) → ((j : ℕ) → j < 4 → slice_index most (2 * j) < 65535) → top_of most < 65535
below_all most h =
    let h0 = h 0 (omega arith) in
    let h1 = h 1 (omega arith) in
    let h2 = h 2 (omega arith) in
    let h3 = h 3 (omega arith) in
    omega (arith, h0, h1, h2, h3)

-- ---- positions that gain no lower bits

bits_sum : (w d : ℕ) → d % 2 ^ 56 ≡ 0 → (middle w + middle d) % 2 ^ 64 ≡ middle ((w + d) % 2 ^ 128)
bits_sum w d h = omega (arith, h)

-- the bits of a position one column on
pub bits_more : (r : WideRamp) (x y at step : ℕ) → at ≡ middle (wide_at r x y) → step ≡ middle r.right → r.right % 2 ^ 56 ≡ 0 → (at + step) % 2 ^ 64 ≡ middle (wide_at r (x + 1) y)
bits_more r x y at step e s h = (λ i. (e i + s i) % 2 ^ 64) ∙ bits_sum (wide_at r x y) r.right h ∙ ap middle (wide_more r x y (wide_at r x y) refl)

-- the position by its bits
pub bits_place : (r : WideRamp) (x y at : ℕ) → at ≡ middle (wide_at r x y) → at / 2 ^ 48 ≡ place_at r x y
bits_place r x y at e = ap (λ n. n / 2 ^ 48) e ∙ placed (r.start + x * r.right + y * r.down)
  where
    placed : (n : ℕ) → n % 2 ^ 128 / 2 ^ 56 % 2 ^ 64 / 2 ^ 48 ≡ n % 2 ^ 128 / 2 ^ 104 % 65536
    placed n = omega arith

-- the same column by another sum
pub bits_as : (p : Place) (y : ℕ) (two : List ℕ) (m n : ℕ) → m ≡ n → AreBits two p m y → AreBits two p n y
bits_as p y two m n e = subst (λ k. AreBits two p k y) e

-- the texel of a lane by the bits of its positions
pub bits_texel : (t : Texels) (p : Place) (x y : ℕ) (two : List ℕ) (word : Color) (u v : ℕ) → AreBits two p x y → word ≡ sample t (pos (u / 2 ^ 16)) (pos (v / 2 ^ 16))
    → u ≡ slice_index two 0 / 2 ^ 32 → v ≡ slice_index two 1 / 2 ^ 32 → word ≡ sample t (pos (place_at p.u x y)) (pos (place_at p.v x y))
bits_texel t p x y two word u v at e hu hv =
    let column = bits_place p.u x y (slice_index two 0) at.u in
    let row = bits_place p.v x y (slice_index two 1) at.v in
    lane_texel t word u v (slice_index two 0) (slice_index two 1) (slice_index two 0) (slice_index two 1) e hu hv refl refl ∙ (λ i. sample t (pos (column i)) (pos (row i)))
