use Rattle.gfx_model.specs.Vertex.{attribute_part, skip_part}
use Rattle.vertex_layout.specs.Kinds.{attribute_seen, component_seen}
use Rattle.c_words.proofs.LayoutParts.{part_skips, part_is}
use Rattle.c_words.proofs.layouts.add.Goals as goal

pub returns-then-part : goal.returns-then-part
returns-then-part c = (skip_part c.args.part.now.count, part_skips c.args.part.now c.if-part.true, c.skip.ensures)

pub returns : goal.returns
returns c = (
  attribute_part (attribute_seen c.in_ok-attribute.attribute) (component_seen c.in_ok-component.component) c.args.part.now.count,
  part_is c.args.part.now _ _ c.if-part.false c.in_ok-attribute.ensures c.in_ok-component.ensures,
  c.add.ensures,
)
