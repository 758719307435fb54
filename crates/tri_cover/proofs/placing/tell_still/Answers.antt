use Rattle.std.proofs.Common.{FitsSigned, w32}
use Rattle.tri_cover.proofs.Stills.{still_point}
use Rattle.tri_cover.proofs.placing.tell_still.Goals as goal

pub returns : goal.returns
returns c =
    let x : FitsSigned w32 c.args.x = c.ranges.x in
    let y : FitsSigned w32 c.args.y = c.ranges.y in
    let z : FitsSigned w32 c.args.z = c.ranges.z in
    still_point c.args.x c.args.y c.args.z x y z
