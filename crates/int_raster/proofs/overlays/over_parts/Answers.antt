use Rattle.std.proofs.Common.{rules, slice_index, ap, arith, ◌∙◌}
use Rattle.gfx_model.specs.Number.{byte_product}
use Rattle.pixel_ops.proofs.Pairs.{over_few}
use Rattle.int_raster.proofs.Eights.{left_of_255, sum_of_two}
use Rattle.int_raster.proofs.overlays.over_parts.Goals as goal

pub shares_of-requires-2-clause-b : goal.shares_of-requires-2-clause-b
shares_of-requires-2-clause-b c j h = omega (arith, left_of_255 c.args.alphas c.fits-alphas.0 j h (c.requires.alphas j h))

pub returns-clause-over : goal.returns-clause-over
returns-clause-over c j h =
    let old = slice_index c.args.old j in
    let one = c.shares_of.ensures.product j h in
    let two = c.shares_of-2.ensures.product j h ∙ ap (byte_product old) (left_of_255 c.args.alphas c.fits-alphas.0 j h (c.requires.alphas j h)) in
    sum_of_two c.shares_of.result c.shares_of-2.result (search rules) (search rules) j h
    ∙ omega (arith, one, two, over_few (slice_index c.args.new j) old (slice_index c.args.alphas j) (c.requires.new j h) (c.requires.old j h) (c.requires.alphas j h))

pub returns-clause-few : goal.returns-clause-few
returns-clause-few c j h =
    omega (arith, returns-clause-over c j h, over_few (slice_index c.args.new j) (slice_index c.args.old j) (slice_index c.args.alphas j) (c.requires.new j h) (c.requires.old j h) (c.requires.alphas j h))
