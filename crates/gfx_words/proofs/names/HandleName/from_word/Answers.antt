use Rattle.std.proofs.Common.{arith}
use Rattle.gfx_words.proofs.NameLaws.{spelled_again, serial_fits}
use Rattle.gfx_words.proofs.names.HandleName.from_word.Goals as goal

pub returns-clause-found : goal.returns-clause-found
returns-clause-found c = (spelled_again _ c.args.word c.in_ok-kind.ensures.back, (omega (arith, c.if-index-greatest.false, c.greatest.ensures), serial_fits c.args.word))
