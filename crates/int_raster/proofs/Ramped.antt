-- A ramp one column on.
use Rattle.std.proofs.Common.{◌≡◌, ℕ, ◌+◌, ◌*◌, ◌/◌, ◌%◌, ◌^◌, ◌<◌, ◌≤◌, [], ◌∷◌, slice_index, refl, ap, subst, ◌∙◌, arith}
use Rattle.tri_cover.specs.declared.ramps.Ramp.{Ramp}
use Rattle.tri_cover.specs.declared.ramps.WideRamp.{WideRamp}
use Rattle.gfx_model.specs.Vertex.{Color}
use Rattle.int_raster.specs.declared.painters.Shade.{Shade}
use Rattle.int_raster.specs.declared.pieces.Tint.{Tint}
use Rattle.int_raster.specs.Painted.{depth_at, shade_at}
use Rattle.int_raster.specs.Tinted.{IsTint}
use Rattle.tri_cover.specs.Slope.{ramp_at}
use Rattle.tri_cover.specs.Widened.{wide_at, wide_whole}

next_column : (s x r d : ℕ) → ((s + x * r + d) % 2 ^ 64 + r) % 2 ^ 64 ≡ (s + (x + 1) * r + d) % 2 ^ 64
next_column s x r d = omega arith

pub ramp_more : (r : Ramp) (x y v : ℕ) → v ≡ ramp_at r x y → (v + r.right) % 2 ^ 64 ≡ ramp_at r (x + 1) y
ramp_more r x y v e = ap (λ n. (n + r.right) % 2 ^ 64) e ∙ next_column r.start x r.right (y * r.down)

pub ramp_on : (r : Ramp) (x y : ℕ) → (ramp_at r x y + r.right) % 2 ^ 64 ≡ ramp_at r (x + 1) y
ramp_on r x y = ramp_more r x y (ramp_at r x y) refl

next_wide : (s x r d : ℕ) → ((s + x * r + d) % 2 ^ 128 + r) % 2 ^ 128 ≡ (s + (x + 1) * r + d) % 2 ^ 128
next_wide s x r d = omega arith

pub wide_more : (r : WideRamp) (x y v : ℕ) → v ≡ wide_at r x y → (v + r.right) % 2 ^ 128 ≡ wide_at r (x + 1) y
wide_more r x y v e = ap (λ n. (n + r.right) % 2 ^ 128) e ∙ next_wide r.start x r.right (y * r.down)

-- a number by its halves
pub halves : (n high low : ℕ) → high ≡ n / 2 ^ 64 → low ≡ n % 2 ^ 64 → high * 2 ^ 64 + low ≡ n
halves n high low h l = omega (arith, h, l)

-- a wide ramp one column on, by halves
pub halves_more : (r : WideRamp) (x y high low by_high by_low next_high next_low : ℕ) → high * 2 ^ 64 + low ≡ wide_at r x y → by_high ≡ r.right / 2 ^ 64 → by_low ≡ r.right % 2 ^ 64 →
    next_high * 2 ^ 64 + next_low ≡ (high * 2 ^ 64 + low + (by_high * 2 ^ 64 + by_low)) % 2 ^ 128 →
    next_high * 2 ^ 64 + next_low ≡ wide_at r (x + 1) y
halves_more r x y high low by_high by_low next_high next_low e h l sum =
    sum ∙ ap (λ n. (high * 2 ^ 64 + low + n) % 2 ^ 128) (halves r.right by_high by_low h l) ∙ wide_more r x y (high * 2 ^ 64 + low) e

-- the whole part by the upper half
pub upper_whole : (r : WideRamp) (x y high low : ℕ) → high * 2 ^ 64 + low ≡ wide_at r x y → low < 2 ^ 64 → high / 2 ^ 40 ≡ wide_whole r x y
upper_whole r x y high low e b = upper high low b ∙ ap (λ n. n / 2 ^ 104) e
  where
    upper : (high low : ℕ) → low < 2 ^ 64 → high / 2 ^ 40 ≡ (high * 2 ^ 64 + low) / 2 ^ 104
    upper high low b = omega (arith, b)

-- a channel by its lane
channel_lane : (r : Ramp) (x y lane channel : ℕ) → lane ≡ channel % 2 ^ 16 → channel ≡ ramp_at r x y / 2 ^ 56 → lane % 256 ≡ ramp_at r x y / 2 ^ 56
channel_lane r x y lane channel e f = omega (arith, e, f)

-- a texel of which each lane has a channel
pub lanes_shade : (s : Shade) (x y : ℕ) (texel channels : Color) (a b c d : ℕ) → texel ≡ a % 256 ∷ b % 256 ∷ c % 256 ∷ d % 256 ∷ []
    → a ≡ slice_index channels 0 % 2 ^ 16 → b ≡ slice_index channels 1 % 2 ^ 16 → c ≡ slice_index channels 2 % 2 ^ 16 → d ≡ slice_index channels 3 % 2 ^ 16
    → slice_index channels 0 ∷ slice_index channels 1 ∷ slice_index channels 2 ∷ slice_index channels 3 ∷ [] ≡ shade_at s x y → texel ≡ shade_at s x y
lanes_shade s x y texel channels a b c d e ha hb hc hd h =
    let red = channel_lane s.red x y a (slice_index channels 0) ha (ap (λ l. slice_index l 0) h) in
    let green = channel_lane s.green x y b (slice_index channels 1) hb (ap (λ l. slice_index l 1) h) in
    let blue = channel_lane s.blue x y c (slice_index channels 2) hc (ap (λ l. slice_index l 2) h) in
    let alpha = channel_lane s.alpha x y d (slice_index channels 3) hd (ap (λ l. slice_index l 3) h) in
    e ∙ (λ i. red i ∷ green i ∷ blue i ∷ alpha i ∷ [])

next_four : (s x r d : ℕ) → ((s + x * r + d) % 2 ^ 64 + r * 4 % 2 ^ 64) % 2 ^ 64 ≡ (s + (x + 4) * r + d) % 2 ^ 64
next_four s x r d = omega arith

-- a ramp four columns on
pub ramp_four : (r : Ramp) (x y : ℕ) → (ramp_at r x y + r.right * 4 % 2 ^ 64) % 2 ^ 64 ≡ ramp_at r (x + 4) y
ramp_four r x y = next_four r.start x r.right (y * r.down)

-- depths have 24 bits
pub few_depths : (r : Ramp) (x y n : ℕ) → n ≡ depth_at r x y → n ≤ 16777215
few_depths r x y n e = omega (arith, e)

-- the channels' values two, three and four columns on
pub two_columns : (s : Shade) (x y : ℕ) (t : Tint) → IsTint t s (x + 1 + 1) y → IsTint t s (x + 2) y
two_columns s x y t = subst (λ n. IsTint t s n y) (omega arith)

pub three_columns : (s : Shade) (x y : ℕ) (t : Tint) → IsTint t s (x + 2 + 1) y → IsTint t s (x + 3) y
three_columns s x y t = subst (λ n. IsTint t s n y) (omega arith)

pub four_columns : (s : Shade) (x y : ℕ) (t : Tint) → IsTint t s (x + 3 + 1) y → IsTint t s (x + 4) y
four_columns s x y t = subst (λ n. IsTint t s n y) (omega arith)
