use Rattle.std.proofs.Common.{◌≡◌, ◌<◌, ℕ, length, drop}
use Rattle.std.specs.Prelude.{fold}
use Rattle.frame_tracing.specs.Given.{strokes_prepared}
use Rattle.frame_blame.specs.Marks.{mark_at, mark_after}
use Rattle.frame_blame.proofs.Draws.{from_on}
use Rattle.frame_blame.proofs.deeds.Table.paint_draw.Given as goal

abbrev pub invariant-loop-setup : goal.invariant-loop-setup
invariant-loop-setup l = record {
  wide : l.self.width ≡ l.fn.self.width;
  high : l.self.height ≡ l.fn.self.height;
  many : length l.self.marks.items ≡ length l.fn.self.marks.items;
  each : (x y : ℕ) → x < l.fn.self.width → y < l.fn.self.height
      → fold (mark_after l.number) (mark_at l.fn.self.width l.self.marks.items x y) (from_on l.draw l.number x y l.setup-index (drop l.setup-index l.triangles))
      ≡ fold (mark_after l.number) (mark_at l.fn.self.width l.fn.self.marks.items x y) (strokes_prepared l.draw l.triangles x y);
}
