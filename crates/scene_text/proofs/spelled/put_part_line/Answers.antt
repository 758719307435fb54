use Rattle.scene_text.proofs.LineTails.{line_made, parts_spelled}
use Rattle.scene_text.proofs.spelled.put_part_line.Goals as goal

pub returns : goal.returns
returns c = rw (← parts_spelled c.args.parts.now) (line_made _ _ _ _ _ _ _ c.in_ok-put_start.ensures c.in_ok-put_parts.ensures c.in_ok-push.ensures.items)
