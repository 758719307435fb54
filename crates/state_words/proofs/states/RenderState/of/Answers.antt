use Rattle.state_words.proofs.Again.{again}
use Rattle.state_words.proofs.states.RenderState.of.Goals as goal

pub returns-clause-again : goal.returns-clause-again
returns-clause-again c s e =
    again c.args.word.now c.read.result s c.read.ensures.channels c.read.ensures.depth_test c.read.ensures.writes_depth c.read.ensures.blended c.read.ensures.blend
    c.read.ensures.culled c.read.ensures.primitive e
