use Rattle.std.proofs.Common.{◌≡◌, ◌≤◌, length}
use Rattle.frame_blame.specs.Brushes.{brush_covers, tipped}
use Rattle.frame_blame.specs.Marks.{no_mark}
use Rattle.frame_blame.proofs.Places.{InRows}
use Rattle.frame_blame.proofs.painting.paint.Given as goal

abbrev pub invariant-loop-y : goal.invariant-loop-y
invariant-loop-y l = record {
  start : l.from ≤ l.y;
  many : length l.marks ≡ length l.fn.marks;
  done : InRows no_mark l.width l.height (brush_covers l.brush) (tipped l.number l.brush) l.y l.fn.marks l.marks;
}
