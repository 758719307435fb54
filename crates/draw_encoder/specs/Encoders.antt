-- What a recorder's fields keep.
use Rattle.std.specs.Prelude.{◌≡◌, ◌≤◌, ℕ, length}
use Rattle.std.specs.List.{AllByRecursion}
use Rattle.gfx_model.specs.FrameCalls.{most_items}
use Rattle.gfx_model.specs.Views.{IsViewCount}
use Rattle.schedule_model.specs.Held.{Ascends}
use Rattle.hold_table.specs.Views.{SeatView}
use Rattle.draw_encoder.specs.TapeViews.{TapeView}
use Rattle.draw_encoder.specs.Names.{HasNamed, FitsUniform, FitsRecorder}

-- what is recorded is of the seat's frame and numbers, which ascend, and of handles that the seat named
pub record IsOf (v : SeatView) (t : TapeView) : Type 0 where
  pub frame : t.recorder.frame ≡ v.frame
  pub views : IsViewCount t.recorder.view_count
  pub ascends : Ascends v.numbers
  pub numbers : t.numbers ≡ v.numbers
  pub count : length t.numbers ≡ length t.recorder.items
  pub most : t.recorder.room.items ≤ most_items
  pub fits : FitsRecorder (HasNamed v) t.recorder
  pub sets : AllByRecursion (FitsUniform (HasNamed v)) t.sets
