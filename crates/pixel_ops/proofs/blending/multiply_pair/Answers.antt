use Rattle.std.proofs.Common.{◌+◌, ◌*◌, ◌∙◌, arith}
use Rattle.pixel_ops.proofs.Pairs.{divided, product_few, pair_product}
use Rattle.pixel_ops.proofs.blending.multiply_pair.Goals as goal

pub returns-clause-products : goal.returns-clause-products
returns-clause-products c a b p q e =
    let f = c.args.factor in
    c.lower_bytes-2.ensures
    ∙ divided (a * f + 127) (b * f + 127) (c.args.pair * f + 8323199) c.lower_bytes.result (product_few a f p c.ranges.factor.fits) (product_few b f q c.ranges.factor.fits) (pair_product a b f c.args.pair e) c.lower_bytes.ensures

pub returns-clause-few : goal.returns-clause-few
returns-clause-few c = omega (arith, c.lower_bytes-2.ensures)
