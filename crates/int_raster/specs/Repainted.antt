-- Prepared draws that paint with something else.
use Rattle.gfx_model.specs.World.{Paint}
use Rattle.int_raster.specs.Drawing.{PreparedDraw}

-- a draw with another paint
abbrev pub painted_as : PreparedDraw → Paint → PreparedDraw
painted_as d paint = record { cut = d.cut; state = d.state; paint = paint; facings = d.facings }
