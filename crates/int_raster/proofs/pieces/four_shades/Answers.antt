use Rattle.std.proofs.Common.{◌≡◌, ◌+◌, slice_index, arith, subst}
use Rattle.int_raster.specs.Tiled.{word_bytes}
use Rattle.int_raster.specs.Tinted.{IsTint}
use Rattle.int_raster.proofs.Ramped.{lanes_shade}
use Rattle.int_raster.proofs.Vectors.{below_four}
use Rattle.int_raster.proofs.pieces.four_shades.Goals as goal

pub returns : goal.returns
returns c s x y first second third fourth =
    let here : x ≡ x + 0 = omega arith in
    let front = subst (λ n. IsTint c.args.a s n y) here first in
    below_four _
    (lanes_shade s (x + 0) y (word_bytes (slice_index c.lowest_bytes.result 0)) c.channels_of.result _ _ _ _ (c.lowest_bytes.ensures.front 0 (omega arith)) (c.lower_halves-front.ensures.front 0 (omega arith)) (c.lower_halves-front.ensures.front 1 (omega arith)) (c.lower_halves-front.ensures.front 2 (omega arith)) (c.lower_halves-front.ensures.front 3 (omega arith)) (c.channels_of.ensures s (x + 0) y front))
    (lanes_shade s (x + 1) y (word_bytes (slice_index c.lowest_bytes.result 1)) c.channels_of-2.result _ _ _ _ (c.lowest_bytes.ensures.front 1 (omega arith)) (c.lower_halves-front.ensures.back 0 (omega arith)) (c.lower_halves-front.ensures.back 1 (omega arith)) (c.lower_halves-front.ensures.back 2 (omega arith)) (c.lower_halves-front.ensures.back 3 (omega arith)) (c.channels_of-2.ensures s (x + 1) y second))
    (lanes_shade s (x + 2) y (word_bytes (slice_index c.lowest_bytes.result 2)) c.channels_of-3.result _ _ _ _ (c.lowest_bytes.ensures.back 0 (omega arith)) (c.lower_halves-back.ensures.front 0 (omega arith)) (c.lower_halves-back.ensures.front 1 (omega arith)) (c.lower_halves-back.ensures.front 2 (omega arith)) (c.lower_halves-back.ensures.front 3 (omega arith)) (c.channels_of-3.ensures s (x + 2) y third))
    (lanes_shade s (x + 3) y (word_bytes (slice_index c.lowest_bytes.result 3)) c.channels_of-4.result _ _ _ _ (c.lowest_bytes.ensures.back 1 (omega arith)) (c.lower_halves-back.ensures.back 0 (omega arith)) (c.lower_halves-back.ensures.back 1 (omega arith)) (c.lower_halves-back.ensures.back 2 (omega arith)) (c.lower_halves-back.ensures.back 3 (omega arith)) (c.channels_of-4.ensures s (x + 3) y fourth))
