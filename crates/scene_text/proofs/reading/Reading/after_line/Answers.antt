use Rattle.std.proofs.Common.{sym}
use Rattle.scene_text.proofs.LineParts.{line_parts}
use Rattle.scene_text.proofs.reading.Reading.after_line.Goals as goal

pub returns : goal.returns
returns c = rw (line_parts _ _ (sym c.if-is_skipped.ensures) (sym c.if-not-all_text.ensures)) c.after_text.ensures
