use Rattle.std.proofs.Common.{◌≡◌, ◌≤◌, length}
use Rattle.frame_blame.specs.Brushes.{brush_covers, tipped}
use Rattle.frame_blame.specs.Marks.{no_mark}
use Rattle.frame_blame.proofs.Places.{InColumns}
use Rattle.frame_blame.proofs.painting.paint_row.Given as goal

abbrev pub invariant-loop-x : goal.invariant-loop-x
invariant-loop-x l = record {
  start : l.from ≤ l.x;
  many : length l.marks ≡ length l.fn.marks;
  done : InColumns no_mark l.width l.height (brush_covers l.brush) (tipped l.number l.brush) l.y l.x l.fn.marks l.marks;
}
