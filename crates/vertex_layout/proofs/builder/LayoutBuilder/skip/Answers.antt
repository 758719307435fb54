use Rattle.gfx_model.specs.Vertex.{skip_part}
use Rattle.vertex_layout.proofs.BuildLaws.{built_one_more}
use Rattle.vertex_layout.proofs.builder.LayoutBuilder.skip.Goals as goal

pub returns : goal.returns
returns c parts is = built_one_more parts (skip_part c.args.bytes) c.args.self.now c.skip_bytes.new.self c.skip_bytes.ensures is
