use Rattle.render_core.proofs.OneWay.{texts_held}
use Rattle.render_core.proofs.laws.texts_law.Goals as goal

pub returns : goal.returns
returns c = texts_held
