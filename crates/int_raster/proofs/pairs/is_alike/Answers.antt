use Rattle.int_raster.proofs.pairs.is_alike.Goals as goal

pub returns-then-has_depth : goal.returns-then-has_depth
returns-then-has_depth c same = record {
  plain = record {
    opaque = c.requires.plain.opaque;
    rule = c.requires.plain.rule;
    plain = c.has_no_stencil.ensures c.if-not-has_no_stencil.false;
  };
  few = c.requires.few;
  paints = c.have_one_color.ensures same;
  depths = c.has_depth.ensures c.if-has_depth.true;
  tile = c.requires.tile;
}
