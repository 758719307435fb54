use Rattle.std.proofs.Common.{sym}
use Rattle.scene_text.proofs.WordTables.{encoder_word_of, resource_word_of}
use Rattle.scene_text.proofs.words.line_word.Goals as goal

pub returns-in-Some : goal.returns-in-Some
returns-in-Some c = sym (encoder_word_of c.args.field.now _ (sym c.in-Some.ensures))

pub returns-in-Some-resource_word : goal.returns-in-Some-resource_word
returns-in-Some-resource_word c = sym (resource_word_of c.args.field.now _ (sym c.in-Some-resource_word.ensures))
