use Rattle.gfx_model.specs.Vertex.{attribute_part}
use Rattle.vertex_layout.specs.Kinds.{attribute_seen, component_seen}
use Rattle.vertex_layout.proofs.BuildLaws.{built_one_more}
use Rattle.vertex_layout.proofs.builder.LayoutBuilder.add.Goals as goal

pub returns : goal.returns
returns c parts is = built_one_more parts (attribute_part (attribute_seen c.args.attr) (component_seen c.args.kind) c.args.count) c.args.self.now c.add_part.new.self c.add_part.ensures is
