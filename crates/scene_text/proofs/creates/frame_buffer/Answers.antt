use Rattle.std.proofs.lemmas.Result.{err_from_is_err_and}
use Rattle.scene_text.proofs.LineParts.{depth_stops}
use Rattle.scene_text.proofs.creates.frame_buffer.Goals as goal

pub returns-in_err-depth : goal.returns-in_err-depth
returns-in_err-depth c =
    let p = err_from_is_err_and c.from_residual-in_err-depth.result c.from_residual-in_err-depth.ensures.1 in
    rw (p.1, p.2)
    (depth_stops _ _ _ _ _ _ c.in_ok-has_count.ensures (rw c.field.ensures at c.in_ok-place.ensures) (rw c.field-2.ensures at c.in_ok-color.ensures) (rw c.field-3.ensures at c.in_err-depth.ensures))
