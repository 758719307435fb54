use Rattle.std.proofs.Common.{◌<◌, ◌*◌, ◌+◌, length, [], arith, sym}
use Rattle.std.proofs.lemmas.List.{get_or_default}
use Rattle.std.proofs.lemmas.Nat.{mul-add-lt}
use Rattle.gfx_model.specs.Raster as model
use Rattle.int_raster.specs.Sampled.{sampler_seen}
use Rattle.int_raster.proofs.Samples.{sample_within}
use Rattle.int_raster.proofs.sampling.texel_at.Goals as goal

pub returns : goal.returns
returns c =
    let t = c.args.sampler.now in
    let y = c.place_of-y.result in
    let x = c.place_of-x.result in
    let inside : y * t.width + x < t.width * t.height = mul-add-lt y t.width x t.height c.place_of-y.ensures.within c.place_of-x.ensures.within in
    let below : y * t.width + x < length t.texels.now = rw t.whole inside in
    rw (get_or_default t.texels.now (y * t.width + x) [] model.no_color below, c.place_of-x.ensures.place, c.place_of-y.ensures.place)
    (sym (sample_within (sampler_seen t) c.args.u c.args.v c.requires.u c.requires.v (omega (arith, t.wide)) (omega (arith, t.high))))
