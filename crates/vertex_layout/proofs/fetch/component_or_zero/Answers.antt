use Rattle.std.proofs.Common.{sym}
use Rattle.vertex_layout.specs.Placed.{placed_seen}
use Rattle.vertex_layout.proofs.FetchLaws.{component_gone}
use Rattle.vertex_layout.proofs.fetch.component_or_zero.Goals as goal

pub returns-else-number-placed : goal.returns-else-number-placed
returns-else-number-placed c = sym (component_gone (placed_seen c.args.placed.now) c.args.bytes.now c.args.at c.args.number c.if-number-placed.false)
