-- Plans: draws whose paints are said by numbers.
use Rattle.std.specs.Prelude.{List}
use Rattle.gfx_model.specs.Number.{zip_with}
use Rattle.gfx_model.specs.World as world
use Rattle.store_model.specs.Textures.{Textures}
use Rattle.int_raster.specs.Drawing.{PreparedDraw}
use Rattle.int_raster.specs.Repainted.{painted_as}
use Rattle.pass_bands.specs.Named.{named_texels}
use Rattle.pass_bands.specs.declared.paints.PlannedPaint.{PlannedPaint}
use Rattle.pass_bands.specs.declared.paints.PlannedPaint.TheVariants as planned
use Rattle.pass_bands.specs.declared.plans.Plan.{Plan}

-- what a planned paint paints with, with these textures
abbrev pub planned_seen : Textures → PlannedPaint → world.Paint
planned_seen t (planned.Solid color) = world.paint_solid color
planned_seen t planned.Vertex = world.paint_vertex
planned_seen t (planned.Texture index) = world.paint_sample (named_texels t index)
planned_seen t (planned.TexColor index) = world.paint_product (named_texels t index)

-- a draw with a planned paint
abbrev pub planned_draw : Textures → PreparedDraw → PlannedPaint → PreparedDraw
planned_draw t d p = painted_as d (planned_seen t p)

-- the draws of a plan, with these textures
abbrev pub plan_seen : Textures → Plan → List PreparedDraw
plan_seen t p = zip_with (planned_draw t) p.list p.paints.items
