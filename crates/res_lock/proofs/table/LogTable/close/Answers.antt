use Rattle.std.proofs.Common.{rules, ap}
use Rattle.res_lock.proofs.Steps.{takes_pen, closes_with, closes_beyond}
use Rattle.res_lock.proofs.table.LogTable.close.Goals as goal

pub join_seat-requires : goal.join_seat-requires
join_seat-requires c = (search rules, search rules, search rules, search rules, takes_pen _ _ _ _ _ _ c.args.pass.no_pen c.args.pen.is_pen)

pub returns-clause-whole : goal.returns-clause-whole
returns-clause-whole c =
    let s = c.close_with.ensures.values.2 in
    closes_with _ s.0 s.1.0 _ c.args.pass.seat.me.0 c.args.pen.seat.me.0 c.join_seat.new.seat.me.0 (ap (λ m. m.0) c.join_seat.ensures.2) s.1.1 c.args.pen.is_pen c.args.pass.all_learnt c.requires.all.0 c.requires.all.1

pub returns-clause-beyond : goal.returns-clause-beyond
returns-clause-beyond c = λ d le.
    let s = c.close_with.ensures.values.2 in
    closes_beyond _ s.0 s.1.0 _ c.args.pass.seat.me.0 c.args.pen.seat.me.0 c.join_seat.new.seat.me.0 (ap (λ m. m.0) c.join_seat.ensures.2) s.1.1 c.requires.all.0 d le
