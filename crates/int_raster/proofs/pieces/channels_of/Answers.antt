use Rattle.std.proofs.Common.{◌≡◌, ℕ, ◌/◌, ◌^◌, [], ◌∷◌, length, arith, rules, ap, ◌∙◌}
use Rattle.tri_cover.specs.Slope.{ramp_at}
use Rattle.int_raster.proofs.Vectors.{shifted}
use Rattle.int_raster.proofs.pieces.channels_of.Goals as goal

pub returns : goal.returns
returns c s x y at =
    let halves = c.upper_halves.result in
    let long : length halves ≡ 4 = search rules in
    let front = c.upper_halves.ensures.front in
    let back = c.upper_halves.ensures.back in
    let red = shifted 24 halves long 0 (omega arith) ∙ ap (λ n. n / 2 ^ 24) (front 0 (omega arith) ∙ ap (λ n. n / 2 ^ 32) at.red) ∙ top_byte (ramp_at s.red x y) in
    let green = shifted 24 halves long 1 (omega arith) ∙ ap (λ n. n / 2 ^ 24) (front 1 (omega arith) ∙ ap (λ n. n / 2 ^ 32) at.green) ∙ top_byte (ramp_at s.green x y) in
    let blue = shifted 24 halves long 2 (omega arith) ∙ ap (λ n. n / 2 ^ 24) (back 0 (omega arith) ∙ ap (λ n. n / 2 ^ 32) at.blue) ∙ top_byte (ramp_at s.blue x y) in
    let alpha = shifted 24 halves long 3 (omega arith) ∙ ap (λ n. n / 2 ^ 24) (back 1 (omega arith) ∙ ap (λ n. n / 2 ^ 32) at.alpha) ∙ top_byte (ramp_at s.alpha x y) in
    (λ i. red i ∷ green i ∷ blue i ∷ alpha i ∷ [])
  where
    top_byte : (n : ℕ) → n / 2 ^ 32 / 2 ^ 24 ≡ n / 2 ^ 56
    top_byte n = omega arith
