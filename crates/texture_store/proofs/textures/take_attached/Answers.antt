use Rattle.texture_store.proofs.TakeLaws.{taken_sides, taken_back}
use Rattle.texture_store.proofs.textures.take_attached.Goals as goal

pub returns-clause-sides : goal.returns-clause-sides
returns-clause-sides c = taken_sides c.args.textures.now c.args.color c.args.depth c.take_both-taken.result c.requires.fits c.take_both-taken.ensures.taken

pub returns-clause-back : goal.returns-clause-back
returns-clause-back c = taken_back c.args.textures.now c.take_both-taken.new.textures c.args.color c.args.depth c.take_both-taken.result c.requires.fits c.take_both-taken.ensures.taken c.take_both-taken.ensures.left
