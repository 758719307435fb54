use Rattle.int_raster.proofs.pairs.with_columns.Goals as goal

pub returns-clause-joined : goal.returns-clause-joined
returns-clause-joined c all = (c.spans.new.spans, (c.spans.ensures.spans, c.join.ensures.joined))
