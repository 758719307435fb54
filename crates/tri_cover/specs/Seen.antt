-- The crate's types as the definitions see them.
use Rattle.std.specs.Prelude.{ℕ, ℤ, ◌≤ℤ◌, ◌<ℤ◌, ◌*◌, pos, negsuc, ◌+ℤ◌, ◌-ℤ◌, ◌*ℤ◌, ◌<◌, ◌≡◌, ◌^◌, unsigned_abs, Bool}
use Rattle.gfx_model.specs.Raster as raster
use Rattle.gfx_model.specs.Vertex.{Triangle}
use Rattle.fix_math.specs.declared.geometry.Point.{Point}
use Rattle.tri_cover.specs.Columns.{base_of, is_reached}
use Rattle.tri_cover.specs.declared.corners.ScreenVertex.{ScreenVertex}
use Rattle.tri_cover.specs.declared.corners.Fragment.{Fragment}
use Rattle.tri_cover.specs.declared.edges.Edge.{Edge}
use Rattle.tri_cover.specs.declared.stepping.Quotient.{Quotient}

-- within eight units of the middle, and from 0 to one unit deep
pub record IsInGuardRange (p : Point) : Type 0 where
  pub left : negsuc 524287 ≤ℤ p.x
  pub right : p.x ≤ℤ pos 524288
  pub upper : negsuc 524287 ≤ℤ p.y
  pub lower : p.y ≤ℤ pos 524288
  pub front : pos 0 ≤ℤ p.z
  pub back : p.z ≤ℤ pos 65536

-- a placed vertex with the same numbers
abbrev pub screen_seen : ScreenVertex → raster.ScreenVertex
screen_seen v = record { x = v.x; y = v.y; depth = v.depth; color = v.color; texcoord = v.texcoord }

-- the triangle of three placed vertices
abbrev pub triangle_seen : ScreenVertex → ScreenVertex → ScreenVertex → Triangle raster.ScreenVertex
triangle_seen a b c = record { a = screen_seen a; b = screen_seen b; c = screen_seen c }

-- a fragment with the same numbers
abbrev pub fragment_seen : Fragment → raster.Fragment
fragment_seen f = record { depth = f.depth; color = f.color; texcoord = f.texcoord }

-- the edge from p to q
pub record IsEdge (e : Edge) (p q : ScreenVertex) : Type 0 where
  pub rise : e.rise ≡ q.x -ℤ p.x
  pub fall : e.fall ≡ q.y -ℤ p.y
  pub base : e.base ≡ base_of (screen_seen p) (screen_seen q)

-- the bounds of an edge between vertices on the target
pub record IsNear (e : Edge) : Type 0 where
  pub base : unsigned_abs e.base < 2 ^ 60
  pub rise : unsigned_abs e.rise < 2 ^ 29
  pub fall : unsigned_abs e.fall < 2 ^ 29

-- whether a pixel lies on the inner side
abbrev pub is_on_side : Edge → ℕ → ℕ → Bool
is_on_side e y x = is_reached (e.base +ℤ e.rise *ℤ pos (256 * y)) e.fall x

-- what is left after a division by n
pub record IsRest (q : Quotient) (n : ℤ) : Type 0 where
  pub low : pos 0 ≤ℤ q.rest
  pub high : q.rest <ℤ n
