use Rattle.std.proofs.Common.{◌≡◌, pos, w64, to_z, arith}
use Rattle.std.proofs.lemmas.Int.{to_z_pos}
use Rattle.tri_cover.specs.Seen.{triangle_seen}
use Rattle.tri_cover.proofs.Widened.{wide_depth_is}
use Rattle.tri_cover.proofs.triangles.Setup.wide_depth.Goals as goal

pub returns : goal.returns
returns c x y hx hy covered =
    let s = c.args.self.now in
    let u : to_z w64 s.a.depth ≡ pos s.a.depth = to_z_pos w64 s.a.depth (omega (arith, s.a.deep)) in
    let v : to_z w64 s.b.depth ≡ pos s.b.depth = to_z_pos w64 s.b.depth (omega (arith, s.b.deep)) in
    let w : to_z w64 s.c.depth ≡ pos s.c.depth = to_z_pos w64 s.c.depth (omega (arith, s.c.deep)) in
    wide_depth_is (triangle_seen s.a s.b s.c) s.a.depth s.b.depth s.c.depth x y c.wide_ramp.result s.turned covered s.a.deep s.b.deep s.c.deep (rw (u, v, w) at (c.wide_ramp.ensures x y hx hy))
