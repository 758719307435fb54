use Rattle.std.proofs.Common.{◌≡◌, ◌+◌, ◌++◌, List, length}
use Rattle.draw_encoder.specs.declared.items.Recording.{Recording}
use Rattle.gfx_context.specs.Gathered.{with_gathered}
use Rattle.scene_playing.proofs.Collecting.{with_gathers}
use Rattle.scene_playing.proofs.beginning.collect.Given as goal

abbrev pub invariant-loop-i : goal.invariant-loop-i
invariant-loop-i g l = record {
  left : length l.context.seat.off + l.i ≡ length l.initial.context.seat.off;
  kept : (more : List Recording) × (l.context.gathered ≡ l.initial.context.gathered ++ more);
  seat : l.context.seat ≡ with_gathered l.context.seat l.initial.context.seat;
  same : l.context ≡ with_gathers l.initial.context l.context;
  owes : g.W.Recorders.owes l.recorders (length l.context.seat.off);
}
