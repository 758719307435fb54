use Rattle.std.proofs.Common.{arith}
use Rattle.std.proofs.lemmas.Int.{ints}
use Rattle.tri_cover.specs.Seen.{screen_seen}
use Rattle.tri_cover.proofs.Barycentre.{turned_area}
use Rattle.tri_cover.proofs.triangles.Setup.new.Goals as goal

pub clockwise-requires : goal.clockwise-requires
clockwise-requires c =
    let back = c.if-back.ensures in
    let turned = turned_area (screen_seen c.args.a) (screen_seen c.args.b) (screen_seen c.args.c) in
    rw turned (omega (arith, ints, back))
