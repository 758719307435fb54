use Rattle.std.proofs.Common.{rules, ap}
use Rattle.res_lock.proofs.Steps.{gives_pen, takes_pen}
use Rattle.res_lock.proofs.table.LogTable.append.Goals as goal

pub split_seat-seat-requires : goal.split_seat-seat-requires
split_seat-seat-requires c = (search rules, search rules, gives_pen _ _ _)

pub join_seat-requires : goal.join_seat-requires
join_seat-requires c = (search rules, search rules, search rules, search rules, takes_pen _ _ _ _ _ _ (ap (λ m. m.0.pen) c.split_seat-seat.ensures.2) c.append_as-seat.result.is_pen)
