use Rattle.std.proofs.Common.{◌+◌, ◌%◌, ◌^◌, ap, arith, ◌∙◌}
use Rattle.tri_cover.specs.Slope.{ramp_at}
use Rattle.int_raster.proofs.Ramped.{ramp_four}
use Rattle.int_raster.proofs.gradients.deep_on.Goals as goal

pub returns : goal.returns
returns c r x y at by = record {
  front = λ j h. c.stepped_on.ensures j h ∙ (λ i. (at.front j h i + by j h i) % 2 ^ 64) ∙ ramp_four r (x + j) y ∙ ap (λ n. ramp_at r n y) (omega arith);
  back = λ j h. c.stepped_on-2.ensures j h ∙ (λ i. (at.back j h i + by j h i) % 2 ^ 64) ∙ ramp_four r (x + 2 + j) y ∙ ap (λ n. ramp_at r n y) (omega arith);
}
