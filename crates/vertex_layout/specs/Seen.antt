-- Vertices as the definitions see them, and an attribute's components in bytes.
use Rattle.std.specs.Prelude.{ℕ, ℤ, List, Option, option_map}
use Rattle.gfx_model.specs.Vertex as model
use Rattle.fix_math.specs.Seen.{point_seen}
use Rattle.vertex_layout.specs.declared.attributes.PlacedAttr.{PlacedAttr}
use Rattle.vertex_layout.specs.declared.fetch.Vertex.{Vertex}
use Rattle.vertex_layout.specs.Placed.{placed_seen}

-- a vertex with the same position, colour and texture position
abbrev pub vertex_seen : Vertex → model.Vertex
vertex_seen v = record { position = point_seen v.position; color = v.color; texcoord = v.texcoord }

-- the components of an attribute, if there is one, of the vertex that begins at a place
abbrev pub components_in : Option PlacedAttr → List ℕ → ℕ → Option (List ℤ)
components_in placed bytes at = option_map (λ p. model.components_at (placed_seen p) bytes at) placed
