use Rattle.view_table.proofs.Others.{IsPut}
use Rattle.view_table.proofs.order.put_others.Given as goal

-- the listed views, and behind them the views below the index that are not named
abbrev pub invariant-loop-view : goal.invariant-loop-view
invariant-loop-view l = IsPut l.fn.named l.fn.listed l.fn.sequence l.sequence l.view l.at
