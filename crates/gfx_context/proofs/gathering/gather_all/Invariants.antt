use Rattle.std.proofs.Common.{◌≡◌, false, ◌+◌, ◌++◌, List, length}
use Rattle.gfx_model.specs.Views.{view_count}
use Rattle.draw_encoder.specs.declared.items.Recording.{Recording}
use Rattle.context_core.specs.Gathered.{with_gathered}
use Rattle.gfx_context.specs.Kept.{AreAdmitted}
use Rattle.gfx_context.proofs.Gathers.{with_seat}
use Rattle.gfx_context.proofs.gathering.gather_all.Given as goal

abbrev pub invariant-loop-i : goal.invariant-loop-i
invariant-loop-i g l = record {
  table : l.core.table ≡ g.C.Naming.table;
  not_given : l.core.state.is_given ≡ false;
  views : view_count l.core.state.book.resources.views ≡ g.C.Naming.views;
  left : length l.core.state.seat.off + l.i ≡ length l.initial.core.state.seat.off;
  kept : (more : List Recording) × (l.core.state.gathered ≡ l.initial.core.state.gathered ++ more);
  seat : l.core.state.seat ≡ with_gathered l.core.state.seat l.initial.core.state.seat;
  same : l.core ≡ with_seat l.initial.core l.core;
  admitted : AreAdmitted g.C.Naming.admits l.core.state.gathered;
}
