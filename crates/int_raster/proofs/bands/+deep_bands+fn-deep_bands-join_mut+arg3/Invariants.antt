use Rattle.int_raster.proofs.bands.+deep_bands+fn-deep_bands-join_mut+arg3.Given as goal

abbrev pub decreases-deep_bands : goal.decreases-deep_bands
decreases-deep_bands g l = l.bands

abbrev pub decreases-join_mut+arg3 : goal.decreases-join_mut+arg3
decreases-join_mut+arg3 g l = l.more
