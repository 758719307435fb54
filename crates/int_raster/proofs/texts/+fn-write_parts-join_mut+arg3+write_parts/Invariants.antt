use Rattle.int_raster.proofs.texts.+fn-write_parts-join_mut+arg3+write_parts.Given as goal

abbrev pub decreases-join_mut+arg3 : goal.decreases-join_mut+arg3
decreases-join_mut+arg3 g l = l.more

abbrev pub decreases-write_parts : goal.decreases-write_parts
decreases-write_parts g l = l.parts
