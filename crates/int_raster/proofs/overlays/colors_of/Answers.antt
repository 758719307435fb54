use Rattle.std.proofs.Common.{◌+◌, ◌*◌, ◌<◌, slice_index, arith, ◌∙◌}
use Rattle.int_raster.proofs.Eights.{two_channels, four_bytes}
use Rattle.int_raster.proofs.overlays.colors_of.Goals as goal

pub returns : goal.returns
returns c j h =
    let e = c.args.even in
    let o = c.args.odd in
    let l : 2 * j < 8 = omega (arith, h) in
    let u : 2 * j + 1 < 8 = omega (arith, h) in
    let low = two_channels e o c.fits-even.0 c.fits-odd.0 (2 * j) l (c.requires.even (2 * j) l) (c.requires.odd (2 * j) l) in
    let high = two_channels e o c.fits-even.0 c.fits-odd.0 (2 * j + 1) u (c.requires.even (2 * j + 1) u) (c.requires.odd (2 * j + 1) u) in
    four_bytes (slice_index c.joined.result j) (slice_index e (2 * j)) (slice_index o (2 * j)) (slice_index e (2 * j + 1)) (slice_index o (2 * j + 1))
    (c.requires.even (2 * j) l) (c.requires.odd (2 * j) l) (c.requires.even (2 * j + 1) u) (c.requires.odd (2 * j + 1) u)
    (c.joined.ensures j h ∙ omega (arith, low, high))
