use Rattle.std.proofs.Common.{◌≡◌, ◌+◌, slice_index, arith}
use Rattle.std.specs.Prelude.{pos}
use Rattle.gfx_model.specs.Raster.{sample}
use Rattle.int_raster.specs.Painted.{place_at}
use Rattle.int_raster.specs.Sampled.{sampler_seen}
use Rattle.int_raster.specs.Tiled.{word_bytes}
use Rattle.int_raster.proofs.Carried.{bits_as, bits_texel, two_and_two}
use Rattle.int_raster.proofs.Vectors.{below_two}
use Rattle.int_raster.proofs.textured.texels_on.Goals as goal

pub returns-clause-texels : goal.returns-clause-texels
returns-clause-texels c p x y j at by exact h =
    let t = sampler_seen c.args.sampler.now in
    let second = c.bits_on-b.ensures p x y at by exact in
    let third = bits_as p y c.bits_on-c.result (x + 1 + 1) (x + 2) (omega arith) (c.bits_on-c.ensures p (x + 1) y second by exact) in
    let fourth = bits_as p y c.bits_on-d.result (x + 2 + 1) (x + 3) (omega arith) (c.bits_on-d.ensures p (x + 2) y third by exact) in
    let f = c.upper_halves.ensures in
    let g = c.upper_halves-2.ensures in
    let w = c.texels_at-four.ensures in
    two_and_two (λ k n. word_bytes (slice_index c.texels_at-four.result k) ≡ sample t (pos (place_at p.u n y)) (pos (place_at p.v n y))) x
    (below_two _
    (bits_texel t p (x + 0) y _ _ _ _ (bits_as p y c.args.at x (x + 0) (omega arith) at) (w.front 0 (omega arith)) (f.front 0 (omega arith)) (f.front 1 (omega arith)))
    (bits_texel t p (x + 1) y _ _ _ _ second (w.front 1 (omega arith)) (f.back 0 (omega arith)) (f.back 1 (omega arith))))
    (below_two _
    (bits_texel t p (x + 2 + 0) y _ _ _ _ (bits_as p y c.bits_on-c.result (x + 2) (x + 2 + 0) (omega arith) third) (w.back 0 (omega arith)) (g.front 0 (omega arith)) (g.front 1 (omega arith)))
    (bits_texel t p (x + 2 + 1) y _ _ _ _ (bits_as p y c.bits_on-d.result (x + 3) (x + 2 + 1) (omega arith) fourth) (w.back 1 (omega arith)) (g.back 0 (omega arith)) (g.back 1 (omega arith))))
    j h

pub returns-clause-next : goal.returns-clause-next
returns-clause-next c p x y at by exact =
    let second = c.bits_on-b.ensures p x y at by exact in
    let third = bits_as p y c.bits_on-c.result (x + 1 + 1) (x + 2) (omega arith) (c.bits_on-c.ensures p (x + 1) y second by exact) in
    let fourth = bits_as p y c.bits_on-d.result (x + 2 + 1) (x + 3) (omega arith) (c.bits_on-d.ensures p (x + 2) y third by exact) in
    bits_as p y c.bits_on.result (x + 3 + 1) (x + 4) (omega arith) (c.bits_on.ensures p (x + 3) y fourth by exact)
