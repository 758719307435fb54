use Rattle.std.proofs.Common.{◌+◌, arith}
use Rattle.vertex_layout.proofs.BuildLaws.{within_wider}
use Rattle.vertex_layout.proofs.builder.LayoutBuilder.skip_bytes.Goals as goal

pub invariant_of-self-else-end-gt255 : goal.invariant_of-self-else-end-gt255
invariant_of-self-else-end-gt255 c = within_wider c.self.inside.stride (c.self.inside.stride + c.args.bytes) c.self.inside.attributes (omega arith) c.self.invariant
