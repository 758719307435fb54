-- The triangles of a draw, step by step.
use Rattle.std.specs.Prelude.{◌≡◌, ◌++◌, ℕ, Bool, if◌then◌else◌, List, Option, None, option_and_then, filter_map, replicate}
use Rattle.fix_math.specs.Seen.{rect_seen, affine_seen}
use Rattle.gfx_model.specs.Vertex.{Vertex, Triangle}
use Rattle.gfx_model.specs.Raster.{ScreenVertex, place}
use Rattle.gfx_model.specs.World.{all_three}
use Rattle.tri_cover.specs.Shown.{Shown, shown_unless_culled}
use Rattle.view_drawing.specs.declared.shapes.Placement.{Placement}

-- a vertex on the target, if it is there and within the guard range
abbrev pub placed_by : Placement → Option Vertex → Option ScreenVertex
placed_by p v = option_and_then (place (affine_seen p.model) (affine_seen p.view) (rect_seen p.rect)) v

-- a triangle, if its corners are placed and it is not culled
abbrev pub kept : ℕ → Triangle (Option ScreenVertex) → Option Shown
kept cull t = option_and_then (shown_unless_culled cull) (all_three t.a t.b t.c)

-- the triangles that are kept
abbrev pub kept_of : ℕ → List (Triangle (Option ScreenVertex)) → List Shown
kept_of cull triangles = filter_map (kept cull) triangles

-- the corners of a triangle of a strip, where the first two may change places
abbrev pub turned : {V : Type 0} → Bool → V → V → V → Triangle V
turned odd a b c = if odd then record { a = b; b = a; c = c } else record { a = a; b = b; c = c }

-- a list is all of another but for missing things at the end
abbrev pub IsFrontOf : {V : Type 0} → (front all : List (Option V)) → Type 0
IsFrontOf front all = (n : ℕ) × (all ≡ front ++ replicate n None)
