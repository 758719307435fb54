use Rattle.gfx_words.proofs.NameLaws.{one_name}
use Rattle.gfx_words.proofs.names.one_word_one_name.Goals as goal

pub returns : goal.returns
returns c = one_name
