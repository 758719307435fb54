use Rattle.scene_playing.specs.Recording.{HasBegun}
use Rattle.scene_playing.proofs.beginning.begin_all.Given as goal

abbrev pub invariant-loop-number : goal.invariant-loop-number
invariant-loop-number g l = record {
  begun : HasBegun l.number l.fn.context l.context;
  owes : g.W.Recorders.owes l.recorders l.number;
}
