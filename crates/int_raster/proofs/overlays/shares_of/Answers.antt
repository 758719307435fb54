use Rattle.std.proofs.Common.{slice_index, arith, ◌∙◌}
use Rattle.pixel_ops.proofs.Pairs.{product_few}
use Rattle.int_raster.proofs.Eights.{product_at}
use Rattle.int_raster.proofs.overlays.shares_of.Goals as goal

pub returns-clause-product : goal.returns-clause-product
returns-clause-product c j h = c.places_of.ensures j h ∙ product_at c.args.a c.args.b c.fits-a.0 c.fits-b.0 j h (c.requires.a j h) (c.requires.b j h)

pub returns-clause-few : goal.returns-clause-few
returns-clause-few c j h =
    omega (
      arith,
      c.places_of.ensures j h ∙ product_at c.args.a c.args.b c.fits-a.0 c.fits-b.0 j h (c.requires.a j h) (c.requires.b j h),
      product_few (slice_index c.args.a j) (slice_index c.args.b j) (c.requires.a j h) (c.requires.b j h),
    )
