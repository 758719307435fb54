use Rattle.int_raster.proofs.deep.triangle_deep.Goals as goal

pub triangle_free-requires-clause-free : goal.triangle_free-requires-clause-free
triangle_free-requires-clause-free c = c.is_free.ensures c.if-is_free.true
