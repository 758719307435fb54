use Rattle.state_words.proofs.Fields.{factors_told}
use Rattle.state_words.proofs.blends.tell_factors.Goals as goal

pub returns-clause-color_source : goal.returns-clause-color_source
returns-clause-color_source c = (factors_told _ c.word.ensures.admitted c.requires).0

pub returns-clause-color_destination : goal.returns-clause-color_destination
returns-clause-color_destination c = (factors_told _ c.word.ensures.admitted c.requires).1

pub returns-clause-alpha_source : goal.returns-clause-alpha_source
returns-clause-alpha_source c = (factors_told _ c.word.ensures.admitted c.requires).2

pub returns-clause-alpha_destination : goal.returns-clause-alpha_destination
returns-clause-alpha_destination c = (factors_told _ c.word.ensures.admitted c.requires).3
