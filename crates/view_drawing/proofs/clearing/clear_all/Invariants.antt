use Rattle.std.proofs.Common.{◌≡◌, map, take, option_map}
use Rattle.int_raster.specs.Seen.{sides_seen, surface_seen}
use Rattle.pass_laws.specs.Passed.{all_cleared}
use Rattle.view_drawing.specs.Passes.{turn_seen}
use Rattle.view_drawing.proofs.clearing.clear_all.Given as goal

-- the surface is cleared for the views before the index, and has its sides
abbrev pub invariant-loop-one : goal.invariant-loop-one
invariant-loop-one l = record {
  cleared : surface_seen l.surface ≡ all_cleared (surface_seen l.fn.surface) (map turn_seen (take l.one-index l.fn.views));
  color : sides_seen l.surface.color ≡ sides_seen l.fn.surface.color;
  depth : option_map sides_seen l.surface.depth ≡ option_map sides_seen l.fn.surface.depth;
}
