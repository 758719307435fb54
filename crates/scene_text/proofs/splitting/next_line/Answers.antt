use Rattle.scene_text.proofs.CutLines.{line_found}
use Rattle.scene_text.proofs.splitting.next_line.Goals as goal

pub returns-in-Some-clause-cases : goal.returns-in-Some-clause-cases
returns-in-Some-clause-cases c = line_found c.args.bytes.now c.in-Some.end _ (rw c.in-Some.is at c.in_ok-end.ensures)
