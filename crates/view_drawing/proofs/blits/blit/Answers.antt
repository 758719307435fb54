use Rattle.view_drawing.proofs.Needs.{copies_within}
use Rattle.view_drawing.proofs.blits.blit.Goals as goal

pub returns-clause-needs : goal.returns-clause-needs
returns-clause-needs c = copies_within c.blit-done.result c.args.textures.now c.args.copy.now c.index-2.ensures.same c.index.ensures.same c.blit-done.ensures.apart c.blit-done.ensures.nothing
