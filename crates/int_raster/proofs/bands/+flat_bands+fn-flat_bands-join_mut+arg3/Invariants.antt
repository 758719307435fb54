use Rattle.int_raster.proofs.bands.+flat_bands+fn-flat_bands-join_mut+arg3.Given as goal

abbrev pub decreases-flat_bands : goal.decreases-flat_bands
decreases-flat_bands g l = l.bands

abbrev pub decreases-join_mut+arg3 : goal.decreases-join_mut+arg3
decreases-join_mut+arg3 g l = l.more
