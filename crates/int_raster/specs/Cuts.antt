-- What the cut of a draw has to be.
use Rattle.std.specs.Prelude.{◌≡◌, List}
use Rattle.gfx_model.specs.Raster.{Rect}
use Rattle.gfx_model.specs.Views.{View}
use Rattle.gfx_model.specs.World.{Surface, Draw, Paint, Facing, drawn}
use Rattle.int_raster.specs.Drawing.{drawn_prepared}

-- with this cut, a draw does what it does in a view's rectangle by both scissors
abbrev pub CutsDraws : (rect view_scissor draw_scissor cut : Rect) → Type 0
CutsDraws rect view_scissor draw_scissor cut = (view : View) (d : Draw) (paint : Paint) (facings : List Facing) (s : Surface) → view.scissor ≡ view_scissor → d.scissor ≡ draw_scissor
    → drawn_prepared s (record { cut = cut; state = d.state; paint = paint; facings = facings }) ≡ drawn view rect d paint facings s
