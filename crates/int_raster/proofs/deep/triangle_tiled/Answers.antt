use Rattle.int_raster.proofs.deep.triangle_tiled.Goals as goal

pub triangle_short-requires-clause-rows : goal.triangle_short-requires-clause-rows
triangle_short-requires-clause-rows c = record {
  order = c.drawn_rows-shared.ensures.order;
  within = c.drawn_rows-shared.ensures.within;
  all = c.drawn_rows-shared.ensures.all;
  cut = c.drawn_rows-shared.ensures.first;
}
