use Rattle.scene_text.proofs.LineParts.{parts_are}
use Rattle.scene_text.proofs.reading.Reading.after_fields.Goals as goal

pub returns : goal.returns
returns c = rw (parts_are _ _ _ _ c.field.ensures c.line_word-word.ensures) c.after_known.ensures
