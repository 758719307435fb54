use Rattle.std.proofs.Common.{[]}
use Rattle.scene_text.proofs.LineTails.{line_made}
use Rattle.scene_text.proofs.spelled.put_line.Goals as goal

pub returns : goal.returns
returns c = line_made _ _ _ _ _ [] _ c.in_ok-put_start.ensures c.in_ok-put_fields.ensures c.in_ok-push.ensures.items
