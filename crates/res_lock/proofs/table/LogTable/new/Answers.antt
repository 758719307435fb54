use Rattle.std.proofs.Common.{rules}
use Rattle.res_lock.proofs.Steps.{gives_pen}
use Rattle.res_lock.proofs.table.LogTable.new.Goals as goal

pub split_seat-pen-requires : goal.split_seat-pen-requires
split_seat-pen-requires c = (search rules, search rules, gives_pen _ _ _)
