use Rattle.int_raster.proofs.bands.+flat_strips.Given as goal

abbrev pub decreases-flat_strips : goal.decreases-flat_strips
decreases-flat_strips l = l.strips
