use Rattle.std.proofs.Common.{sym}
use Rattle.scene_model.specs.Field.{split_at}
use Rattle.scene_text.specs.LineWords.{after_parts}
use Rattle.scene_text.specs.SeenReading.{reading_seen}
use Rattle.scene_text.proofs.LineParts.{line_parts}
use Rattle.scene_text.proofs.reading.Reading.after_split.Goals as goal

pub returns : goal.returns
returns c = rw (line_parts _ _ (sym c.if-is_skipped.ensures) c.requires.text, sym c.requires.fields) c.after_fields.ensures
