use Rattle.std.proofs.Common.{◌≡◌, ◌<◌, ℕ, length, drop}
use Rattle.render_stores.specs.Seen.{stores_seen}
use Rattle.frame_steps.specs.Steps.{deeds_of_doers}
use Rattle.frame_blame.specs.Done.{history_of_these}
use Rattle.frame_blame.specs.Marks.{mark_at, marked}
use Rattle.frame_blame.proofs.blaming.paint_each.Given as goal

abbrev pub invariant-loop-place : goal.invariant-loop-place
invariant-loop-place g l = record {
  wide : l.table.width ≡ l.fn.table.width;
  high : l.table.height ≡ l.fn.table.height;
  many : length l.table.marks.items ≡ length l.fn.table.marks.items;
  each : (x y : ℕ) → x < l.fn.table.width → y < l.fn.table.height
      → marked (mark_at l.fn.table.width l.table.marks.items x y) (history_of_these x y l.place (stores_seen l.stores) (deeds_of_doers l.frame (drop l.place l.doers)))
      ≡ marked (mark_at l.fn.table.width l.fn.table.marks.items x y) (history_of_these x y 0 (stores_seen l.fn.stores) (deeds_of_doers l.frame l.doers));
}
