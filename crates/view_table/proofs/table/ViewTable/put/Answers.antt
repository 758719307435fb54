use Rattle.std.proofs.Common.{take}
use Rattle.view_table.proofs.Kept.{put_view}
use Rattle.view_table.proofs.table.ViewTable.put.Goals as goal

pub returns : goal.returns
returns c = put_view c.self.inside.settings.items (take c.self.inside.listed c.self.inside.sequence.items) c.args.self.now c.args.view c.args.settings c.self.view_is
