use Rattle.std.proofs.Common.{◌≡◌, ◌+◌, ◌*◌, length, slice_index, Fits, w16, ap, rules, arith, ◌∙◌}
use Rattle.std.specs.Prelude.{pos}
use Rattle.std.proofs.lemmas.Simd.{below_from_Fits}
use lib.Lanes.{Each1}
use Rattle.gfx_model.specs.Raster.{sample}
use Rattle.int_raster.specs.Sampled.{sampler_seen}
use Rattle.int_raster.proofs.Halved.{lane_below}
use Rattle.int_raster.proofs.Samples.{numbers_within, texels_are}
use Rattle.int_raster.proofs.sampling.texels_at.Goals as goal

pub four_texels-requires : goal.four_texels-requires
four_texels-requires c =
    let at = c.upper_parts-at.result in
    let long : length at ≡ 8 = search rules in
    let fits : Each1 (Fits w16) at = search rules in
    numbers_within c.args.sampler.now c.args.sides.now at c.places_of.result c.joined-places.result c.numbers_at.result c.requires
    (λ j h. lane_below 65536 at j (omega (arith, long, h)) (below_from_Fits w16 at fits)) c.places_of.ensures c.joined-places.ensures c.numbers_at.ensures

pub returns-clause-front : goal.returns-clause-front
returns-clause-front c j h =
    let at = c.upper_parts-at.result in
    let long : length at ≡ 8 = search rules in
    let fits : Each1 (Fits w16) at = search rules in
    let first = c.upper_parts-at.ensures.front (2 * j) (omega (arith, h)) in
    let second = c.upper_parts-at.ensures.front (2 * j + 1) (omega (arith, h)) in
    c.four_texels.ensures j (omega (arith, h))
    ∙ texels_are c.args.sampler.now c.args.sides.now at c.places_of.result c.joined-places.result c.numbers_at.result c.requires
    (λ j h. lane_below 65536 at j (omega (arith, long, h)) (below_from_Fits w16 at fits)) c.places_of.ensures c.joined-places.ensures c.numbers_at.ensures j (omega (arith, h))
    ∙ (λ i. sample (sampler_seen c.args.sampler.now) (pos (first i)) (pos (second i)))

pub returns-clause-back : goal.returns-clause-back
returns-clause-back c j h =
    let at = c.upper_parts-at.result in
    let long : length at ≡ 8 = search rules in
    let fits : Each1 (Fits w16) at = search rules in
    let behind : 2 * (2 + j) ≡ 4 + 2 * j = omega arith in
    let beside : 2 * (2 + j) + 1 ≡ 4 + (2 * j + 1) = omega arith in
    let first = ap (λ n. slice_index at n) behind ∙ c.upper_parts-at.ensures.back (2 * j) (omega (arith, h)) in
    let second = ap (λ n. slice_index at n) beside ∙ c.upper_parts-at.ensures.back (2 * j + 1) (omega (arith, h)) in
    c.four_texels.ensures (2 + j) (omega (arith, h))
    ∙ texels_are c.args.sampler.now c.args.sides.now at c.places_of.result c.joined-places.result c.numbers_at.result c.requires
    (λ j h. lane_below 65536 at j (omega (arith, long, h)) (below_from_Fits w16 at fits)) c.places_of.ensures c.joined-places.ensures c.numbers_at.ensures (2 + j) (omega (arith, h))
    ∙ (λ i. sample (sampler_seen c.args.sampler.now) (pos (first i)) (pos (second i)))
