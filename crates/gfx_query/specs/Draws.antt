-- The triangles of a draw with its instances.
use Rattle.std.specs.Prelude.{ℕ, ◌+◌, ◌*◌, ◌/◌, ◌==◌, if◌then◌else◌, List, [], ◌∷◌, map, length, Option, Some, None, option_and_then, filter_map, flat_map}
use Rattle.std.specs.List.{range_with_len}
use Rattle.gfx_model.specs.Number.{i32_at}
use Rattle.gfx_model.specs.Words.{cull_of, primitive_of}
use Rattle.gfx_model.specs.Vertex.{Layout, position_attribute, fixed_type, Vertex, Triangle, vertices_of, triangles_of}
use Rattle.gfx_model.specs.Raster.{Affine, Rect, ScreenVertex, identity, place, is_kept}
use Rattle.gfx_model.specs.World.{Facing, facing_of, all_three}

-- vertices of a position alone, three fixed numbers
abbrev pub position_layout : Layout
position_layout = record { attributes = record { attribute = position_attribute; component = fixed_type; count = 3; offset = 0 } ∷ []; stride = 12 }

-- the whole vertices that bytes hold
abbrev pub vertices_in : List ℕ → List (Option Vertex)
vertices_in bytes = vertices_of (record { layout = position_layout; bytes = bytes; first = 0; count = length bytes / 12 }) None

-- the transform of twelve numbers that begin at a place
abbrev pub transform_at : List ℕ → ℕ → Affine
transform_at bytes at = map (λ k. i32_at bytes (at + 4 * k)) (range_with_len 0 12)

-- the whole transforms that bytes hold
abbrev pub transforms_in : List ℕ → List Affine
transforms_in bytes = map (λ k. transform_at bytes (48 * k)) (range_with_len 0 (length bytes / 48))

-- the instances of a draw: one of the identity where no transform is given
abbrev pub instances_of : List ℕ → List Affine
instances_of bytes = if length bytes == 0 then identity ∷ [] else transforms_in bytes

-- the whole target as a rectangle
abbrev pub whole : (width height : ℕ) → Rect
whole width height = record { x = 0; y = 0; w = width; h = height }

-- a vertex of an instance on the whole target, if it is there and within the guard range
abbrev pub instance_vertex : (width height : ℕ) → Affine → Option Vertex → Option ScreenVertex
instance_vertex width height model v = option_and_then (place model identity (whole width height)) v

-- a triangle with the stencil word of the side that it shows; none where it has no area or is culled
abbrev pub facing_unless_culled : (state front back : ℕ) → Triangle ScreenVertex → Option Facing
facing_unless_culled state front back t = if is_kept (cull_of state) t then Some (facing_of front back t) else None

-- the same where all three corners are placed
abbrev pub facing_of_corners : (state front back : ℕ) → Triangle (Option ScreenVertex) → Option Facing
facing_of_corners state front back t = option_and_then (facing_unless_culled state front back) (all_three t.a t.b t.c)

-- the triangles of one instance that count, in order
abbrev pub instance_facings : (width height state front back : ℕ) → List (Option Vertex) → Affine → List Facing
instance_facings width height state front back vertices model =
    filter_map (facing_of_corners state front back) (triangles_of (primitive_of state) (map (instance_vertex width height model) vertices))

-- the triangles of a draw: those of its vertices once for each transform, in the transforms' order
abbrev pub draw_facings : (width height state front back : ℕ) → (vertices instances : List ℕ) → List Facing
draw_facings width height state front back vertices instances =
    flat_map (instance_facings width height state front back (vertices_in vertices)) (instances_of instances)
