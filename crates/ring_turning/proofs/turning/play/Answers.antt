use Rattle.ring_turning.proofs.Turns.{at_still}
use Rattle.ring_turning.proofs.turning.play.Goals as goal

pub turn_frames-requires-clause-at : goal.turn_frames-requires-clause-at
turn_frames-requires-clause-at g c κs within = at_still 0 c.args.context.now c.make.new.calls c.make.ensures c.requires.at
