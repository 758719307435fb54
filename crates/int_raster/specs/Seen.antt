-- The crate's types as the definitions see them.
use Rattle.std.specs.Prelude.{ℕ, List, [], Some, None, map, option_map}
use Rattle.gfx_model.specs.World as world
use Rattle.fix_math.specs.Seen.{rect_seen, texels_seen}
use Rattle.fix_math.specs.declared.picture.Texels.{Texels}
use Rattle.gfx_model.specs.Vertex.{Color}
use Rattle.gfx_model.specs.Raster.{fragment_at}
use Rattle.gfx_model.specs.Pixel.{Pixel, stored_color}
use Rattle.tri_cover.specs.Shown.{Shown, setup_seen}
use Rattle.tri_cover.specs.declared.triangles.Setup.{Setup}
use Rattle.int_raster.specs.Drawing.{PreparedDraw, facing_shown, covered_step}
use Rattle.int_raster.specs.Places.{facing_change, where_test, is_drawn}
use Rattle.int_raster.specs.declared.surfaces.Surface.{Surface}
use Rattle.int_raster.specs.declared.lists.Paint.{Paint}
use Rattle.int_raster.specs.declared.lists.Paint.TheVariants as paints
use Rattle.int_raster.specs.declared.lists.Prepared.{Prepared}

-- a surface's colours and depths
abbrev pub surface_seen : Surface → world.Surface
surface_seen s = record { color = texels_seen s.color; depth = option_map texels_seen s.depth }

-- the sides of texels
abbrev pub sides_seen : Texels → ℕ × ℕ
sides_seen t = (t.width, t.height)

-- what a draw paints with
abbrev pub paint_seen : Paint → world.Paint
paint_seen (paints.Solid color) = world.paint_solid color
paint_seen paints.Vertex = world.paint_vertex
paint_seen (paints.Texture t) = world.paint_sample (Some (texels_seen t.now))
paint_seen (paints.TexColor t) = world.paint_product (Some (texels_seen t.now))
paint_seen paints.Nothing = world.paint_sample None
paint_seen paints.NothingColor = world.paint_product None

-- a prepared draw with its triangles
abbrev pub prepared_seen : Prepared → List Shown → PreparedDraw
prepared_seen p triangles = record {
  cut = rect_seen p.cut;
  state = p.state;
  paint = paint_seen p.paint;
  facings = map (facing_shown p.front p.back) triangles;
}

-- a triangle with the stencil word that a draw uses for it
abbrev pub facing_seen : Prepared → Setup → world.Facing
facing_seen d s = facing_shown d.front d.back (setup_seen s)

-- what a triangle of a draw does to a pixel that it covers
abbrev pub step_seen : Prepared → Setup → ℕ → ℕ → Pixel → Pixel
step_seen d s = covered_step d.state (paint_seen d.paint) (facing_seen d s)

-- what it does to the pixels of a surface
abbrev pub change_seen : Prepared → Setup → ℕ → ℕ → Pixel → Pixel
change_seen d s = facing_change (prepared_seen d []) (facing_seen d s)

-- what it does to the colour of a pixel that it covers, where the tests pass
abbrev pub color_seen : Prepared → Setup → ℕ → ℕ → Color → Color
color_seen d s x y c = stored_color d.state (world.painted (paint_seen d.paint) (fragment_at (setup_seen s).triangle x y)) c

-- what it does to the colours of a surface
abbrev pub color_change : Prepared → Setup → ℕ → ℕ → Color → Color
color_change d s = where_test (is_drawn (rect_seen d.cut) (facing_seen d s)) (color_seen d s)
