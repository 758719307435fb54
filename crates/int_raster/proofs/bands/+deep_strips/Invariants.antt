use Rattle.int_raster.proofs.bands.+deep_strips.Given as goal

abbrev pub decreases-deep_strips : goal.decreases-deep_strips
decreases-deep_strips l = l.strips
