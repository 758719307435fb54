use Rattle.std.proofs.Common.{◌≡◌, ◌+◌, ◌%◌, ◌^◌, [], ◌∷◌, slice_index, ap, arith, ◌∙◌}
use Rattle.tri_cover.specs.Slope.{ramp_at}
use Rattle.int_raster.proofs.Ramped.{ramp_more}
use Rattle.int_raster.proofs.Vectors.{below_two}
use Rattle.int_raster.proofs.gradients.deep_at.Goals as goal

pub returns : goal.returns
returns c =
    let r = c.args.ramp.now in
    let x = c.args.x in
    let y = c.args.y in
    let a = c.value_at-a.result in
    let b = (a + r.right) % 2 ^ 64 in
    let e = (b + r.right) % 2 ^ 64 in
    let second : b ≡ ramp_at r (x + 1) y = ramp_more r x y a c.value_at-a.ensures in
    let third : e ≡ ramp_at r (x + 2) y = ramp_more r (x + 1) y b second ∙ ap (λ n. ramp_at r n y) (omega arith) in
    let fourth : (e + r.right) % 2 ^ 64 ≡ ramp_at r (x + 3) y = ramp_more r (x + 2) y e third ∙ ap (λ n. ramp_at r n y) (omega arith) in
    record {
      front = below_two (λ j. slice_index (a ∷ b ∷ []) j ≡ ramp_at r (x + j) y) (c.value_at-a.ensures ∙ ap (λ n. ramp_at r n y) (omega arith)) second;
      back = below_two (λ j. slice_index (e ∷ (e + r.right) % 2 ^ 64 ∷ []) j ≡ ramp_at r (x + 2 + j) y) (third ∙ ap (λ n. ramp_at r n y) (omega arith)) (fourth ∙ ap (λ n. ramp_at r n y) (omega arith));
    }
