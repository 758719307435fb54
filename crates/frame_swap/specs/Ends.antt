-- What a clause says of the two ends.
use Rattle.std.specs.Prelude.{ℕ, List}
use Rattle.atomic_table.specs.Seated.{TableId}
use Rattle.frame_swap.specs.Views.{SwapView}
use Rattle.frame_record.specs.declared.frame.Frame.{Frame}
use Rattle.frame_record.specs.declared.frame.RenderedFrame.{RenderedFrame}
use Rattle.frame_swap.specs.declared.ends.ApiEnd.{ApiEnd}
use Rattle.frame_swap.specs.declared.ends.RenderEnd.{RenderEnd}

-- the table that an end is of
abbrev pub api_table : ApiEnd → TableId
api_table e = e.seat.table_id

-- the table of the render end
abbrev pub render_table : RenderEnd → TableId
render_table e = e.seat.table_id

-- what an end knows
abbrev pub api_knows : ApiEnd → SwapView
api_knows e = e.seat.me.0

-- what the render end knows
abbrev pub render_knows : RenderEnd → SwapView
render_knows e = e.seat.me.0

-- the frames that the API end has given, in order
abbrev pub given_by : ApiEnd → List Frame
given_by e = e.seat.me.0.given

-- the frames that came back to it, in order
abbrev pub back_by : ApiEnd → List RenderedFrame
back_by e = e.seat.me.0.back

-- how many frames can be out
abbrev pub latency_of : ApiEnd → ℕ
latency_of e = e.latency
