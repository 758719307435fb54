-- What a clause says of a table and its seats.
use Rattle.atomic_table.specs.Seated.{TableId}
use Rattle.hold_table.specs.Views.{SeatView}
use Rattle.hold_table.specs.declared.table.HoldTable.{HoldTable}
use Rattle.hold_table.specs.declared.table.ApiSeat.{ApiSeat}
use Rattle.hold_table.specs.declared.table.EncSeat.{EncSeat}

-- the name of a table
abbrev pub table_of : HoldTable → TableId
table_of t = t.table.shared.table_id

-- the name of the table that a seat is of
abbrev pub api_table : ApiSeat → TableId
api_table a = a.seat.table_id

-- the table of a recorder's seat
abbrev pub enc_table : EncSeat → TableId
enc_table e = e.seat.table_id

-- what a seat knows
abbrev pub api_view : ApiSeat → SeatView
api_view a = a.seat.me.0

-- what a recorder's seat knows
abbrev pub enc_view : EncSeat → SeatView
enc_view e = e.seat.me.0
