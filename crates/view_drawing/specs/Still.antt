-- Placements that move no point.
use Rattle.std.specs.Prelude.{◌≡◌}
use Rattle.gfx_model.specs.Raster.{identity}
use Rattle.fix_math.specs.Seen.{affine_seen}
use Rattle.view_drawing.specs.declared.shapes.Placement.{Placement}

-- both transforms of a placement leave each point where it is
abbrev pub IsStill : Placement → Type 0
IsStill p = (affine_seen p.model ≡ identity) × (affine_seen p.view ≡ identity)
