use Rattle.std.proofs.Common.{◌+◌, take, drop}
use Rattle.scene_text.proofs.JournalLines.{one_more}
use Rattle.scene_text.proofs.journal_reading.is_one_piece.Goals as goal

pub returns-in-Some : goal.returns-in-Some
returns-in-Some c = one_more c.args.field.now (take c.in-Some.field-0 c.args.field.now) (drop (c.in-Some.field-0 + 1) c.args.field.now) c.in-Some.ensures.cases.1
