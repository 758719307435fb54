use Rattle.std.proofs.Common.{◌≡◌, pos, w64, to_z, arith}
use Rattle.std.proofs.lemmas.Int.{to_z_pos}
use Rattle.tri_cover.proofs.Aligned.{depth_is, IsShifted}
use Rattle.tri_cover.proofs.steps.Steps.depth.Goals as goal

pub returns-clause-ramp : goal.returns-clause-ramp
returns-clause-ramp c t s x y near covered =
    let i = c.args.self.now.inverse in
    let shifted : IsShifted c.aligned.result c.in_ok-ramp.field-0 = record { start = c.aligned.ensures.start; right = c.aligned.ensures.right; down = c.aligned.ensures.down } in
    let u : to_z w64 c.args.u ≡ pos c.args.u = to_z_pos w64 c.args.u (omega arith) in
    let v : to_z w64 c.args.v ≡ pos c.args.v = to_z_pos w64 c.args.v (omega arith) in
    let w : to_z w64 c.args.w ≡ pos c.args.w = to_z_pos w64 c.args.w (omega arith) in
    let found = c.in_ok-ramp.ensures.ramp t s x y near in
    depth_is t c.args.u c.args.v c.args.w i.divisor x y c.aligned.result c.in_ok-ramp.field-0 shifted s.divisor i.positive covered c.requires.u c.requires.v c.requires.w (rw (u, v, w) at found)
