use Rattle.std.proofs.Common.{◌+◌, ◌%◌, ◌^◌, arith, ◌∙◌}
use Rattle.int_raster.proofs.Ramped.{ramp_on}
use Rattle.int_raster.proofs.pieces.tint_on.Goals as goal

pub returns : goal.returns
returns c s x y at by =
    let front = c.stepped_on.ensures in
    let back = c.stepped_on-2.ensures in
    record {
      red = front 0 (omega arith) ∙ (λ i. (at.red i + by.red i) % 2 ^ 64) ∙ ramp_on s.red x y;
      green = front 1 (omega arith) ∙ (λ i. (at.green i + by.green i) % 2 ^ 64) ∙ ramp_on s.green x y;
      blue = back 0 (omega arith) ∙ (λ i. (at.blue i + by.blue i) % 2 ^ 64) ∙ ramp_on s.blue x y;
      alpha = back 1 (omega arith) ∙ (λ i. (at.alpha i + by.alpha i) % 2 ^ 64) ∙ ramp_on s.alpha x y;
    }
