use Rattle.std.proofs.Common.{◌≡◌, ◌/◌, ◌^◌, slice_index, ap, ◌∙◌}
use Rattle.int_raster.specs.Painted.{depth_at}
use Rattle.int_raster.proofs.Carried.{two_and_two}
use Rattle.int_raster.proofs.gradients.depths_of.Goals as goal

pub returns : goal.returns
returns c r x y j at h =
    two_and_two (λ k n. slice_index c.four_depths.result k ≡ depth_at r n y) x
    (λ k l. c.four_depths.ensures.front k l ∙ ap (λ n. n / 2 ^ 40) (at.front k l))
    (λ k l. c.four_depths.ensures.back k l ∙ ap (λ n. n / 2 ^ 40) (at.back k l))
    j h
