-- What is written of a readable scene is read as it.
use Rattle.std.proofs.Common.{true, map, Ok, ap, ◌∙◌}
use Rattle.scene_model.specs.Scene.{Scene}
use Rattle.scene_model.specs.Grammar.{is_at_end, says_latency, nothing_read}
use Rattle.spelling_model.specs.LineSpelling.{spelled_lines}
use Rattle.spelling_model.specs.Spelling.{IsRead}
use Rattle.spelling_model.specs.Readable.{IsReadable}
use Rattle.spelling_model.specs.Written.{has_beside, written}
use Rattle.spelling_model.proofs.ReadLines.{read_fields}
use Rattle.spelling_model.proofs.Texts.{bytes_read}
use Rattle.spelling_model.proofs.LineTexts.{text_of_lines}
use Rattle.spelling_model.proofs.SceneAgain.{lines_again}
use Rattle.spelling_model.proofs.LinesApart as apart

pub readable-read : (s : Scene) → IsReadable s → IsRead s
readable-read s h =
    let lines = spelled_lines true (says_latency s.version) (map has_beside s.frames) s in
    let r = lines_again s h in
    let t = text_of_lines lines (apart.lines_apart s h) in
    (written s, bytes_read (written s) r.0 t.0 (ap (read_fields nothing_read) t.1 ∙ r.1) (ap is_at_end r.2) ∙ ap (λ s. Ok s) r.3)
