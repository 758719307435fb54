use Rattle.std.proofs.Common.{ap, sym, ◌∙◌}
use Rattle.int_raster.specs.Painted.{painter_color}
use Rattle.int_raster.proofs.deep.paint_plain.Goals as goal

pub fill-requires-clause-paints : goal.fill-requires-clause-paints
fill-requires-clause-paints c x a b = ap (λ p. painter_color p x c.args.span.now.y) (sym c.in-Solid.is) ∙ c.requires.paints x a b

pub store_shade-requires-clause-paints : goal.store_shade-requires-clause-paints
store_shade-requires-clause-paints c x a b = ap (λ p. painter_color p x c.args.span.now.y) (sym c.in-Vertex.is) ∙ c.requires.paints x a b
