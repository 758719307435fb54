-- Rows of a surface after draws.
use Rattle.std.specs.Prelude.{◌≡◌, List, Option, None, Some, fold}
use Rattle.gfx_model.specs.Vertex.{Color}
use Rattle.gfx_model.specs.World as world
use Rattle.int_raster.specs.Bands.{deep, deep_drawn, flat_drawn}
use Rattle.int_raster.specs.Drawing.{PreparedDraw, drawn_prepared}
use Rattle.int_raster.specs.Seen.{surface_seen}
use Rattle.int_raster.specs.declared.rows.Rows.{Rows}
use Rattle.int_raster.specs.declared.surfaces.Surface.{Surface}
use Rattle.fix_math.specs.declared.picture.Texels.{Texels}
use Rattle.pass_bands.specs.Planned.{plan_seen}
use Rattle.pass_bands.specs.Rowed.{rowed}
use Rattle.pass_bands.specs.declared.works.Work.{Work}
use Rattle.pass_bands.specs.declared.works.Task.{Task}

-- the draws of a work
abbrev pub work_seen : Work → List PreparedDraw
work_seen w = plan_seen w.textures w.plan

-- the surface of a task after its draws
abbrev pub task_done : Task → world.Surface
task_done t = fold drawn_prepared (surface_seen t.surface) (work_seen t.work)

-- colours and depths, if there are any, are what draws make of rows of a surface
abbrev pub AreDrawn : Surface → List PreparedDraw → Rows → List Color → Option (List Color) → Type 0
AreDrawn s ds rows colors None = colors ≡ flat_drawn rows.width rows.top (rowed rows s.color.texels) ds
AreDrawn s ds rows colors (Some depths) = (t : Texels) → s.depth ≡ Some t → deep colors depths ≡ deep_drawn rows.width rows.top (deep (rowed rows s.color.texels) (rowed rows t.texels)) ds
