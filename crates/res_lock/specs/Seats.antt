-- What a clause says of the history's table and its passes.
use Rattle.std.specs.Prelude.{ℕ, ◌≡◌, ◌<◌, List, length}
use Rattle.atomic_table.specs.Seated.{TableId}
use Rattle.res_lock.specs.Histories.{LockEntry}
use Rattle.res_lock.specs.Views.{PassView, written_in}
use Rattle.res_lock.specs.declared.table.LogTable.{LogTable}
use Rattle.res_lock.specs.declared.table.HistoryTable.{HistoryTable}
use Rattle.res_lock.specs.declared.table.Pen.{Pen}
use Rattle.res_lock.specs.declared.table.ResPass.{ResPass}

-- the name of a history's table
abbrev pub log_table : LogTable → TableId
log_table t = t.table.shared.table_id

-- the same of the table that a caller makes
abbrev pub table_of : HistoryTable → TableId
table_of t = log_table t.log

-- the name of the table that a pass is of
abbrev pub pass_table : ResPass → TableId
pass_table p = p.seat.table_id

-- the table of a pen
abbrev pub pen_table : Pen → TableId
pen_table p = p.seat.table_id

-- what a pass knows
abbrev pub pass_view : ResPass → PassView
pass_view p = p.seat.me.0

-- the history to which a pen appends
abbrev pub pen_log : Pen → List LockEntry
pen_log p = written_in p.seat.me.0.pen

-- the number of a pass's caller
abbrev pub caller_of : ResPass → ℕ
caller_of p = p.caller

-- how many calls of a pass stand in the history
abbrev pub made_by : ResPass → ℕ
made_by p = p.made

-- the pass is the one that came with the table
abbrev pub IsFirst : ResPass → Type 0
IsFirst p = 0 < p.seat.me.0.next

-- the pass has every caller, so all others were joined
abbrev pub HasAll : ResPass → Type 0
HasAll p = length p.seat.me.0.callers ≡ p.seat.me.0.next
