use Rattle.std.proofs.Common.{◌≡◌, ℕ, ◌+◌, ◌≤◌, length, ap, arith}
use Rattle.gfx_model.specs.Vertex.{position_attribute, color0_attribute, texcoord0_attribute, Layout}
use Rattle.vertex_layout.specs.declared.layout.VertexLayout.TheInside.{Inside}
use Rattle.vertex_layout.specs.Inner.{view_of}
use Rattle.vertex_layout.proofs.FetchLaws.{fits_at}
use Rattle.vertex_layout.proofs.layout.VertexLayout.vertex_at.Goals as goal

within : (s : Inside) (l : Layout) (at len : ℕ) → view_of s ≡ l → at + l.stride ≤ len → at + s.stride ≤ len
within s l at len e le = omega (arith, le, ap (λ x. x.stride) e)

pub position_of-requires : goal.position_of-requires
position_of-requires c = fits_at c.self.inside.position (view_of c.self.inside) position_attribute c.args.at (length c.args.bytes.now) c.self.invariant.position c.self.invariant.whole (within c.self.inside c.args.self.now c.args.at (length c.args.bytes.now) c.self.view_is c.requires)

pub color_of-requires : goal.color_of-requires
color_of-requires c = fits_at c.self.inside.color (view_of c.self.inside) color0_attribute c.args.at (length c.args.bytes.now) c.self.invariant.color c.self.invariant.whole (within c.self.inside c.args.self.now c.args.at (length c.args.bytes.now) c.self.view_is c.requires)

pub texcoord_of-requires : goal.texcoord_of-requires
texcoord_of-requires c = fits_at c.self.inside.texcoord (view_of c.self.inside) texcoord0_attribute c.args.at (length c.args.bytes.now) c.self.invariant.texcoord c.self.invariant.whole (within c.self.inside c.args.self.now c.args.at (length c.args.bytes.now) c.self.view_is c.requires)
