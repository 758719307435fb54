use Rattle.std.proofs.Common.{arith}
use Rattle.tri_cover.specs.Shown.{setup_seen}
use Rattle.int_raster.proofs.Level.{number_one}
use Rattle.int_raster.proofs.painters.one_depth.Goals as goal

pub returns-then-setup-depth-2-clause-same : goal.returns-then-setup-depth-2-clause-same
returns-then-setup-depth-2-clause-same c x y =
    let s = c.args.setup.now in
    number_one (setup_seen s).triangle x y s.a.depth s.b.depth s.c.depth s.turned (omega arith) (omega arith)
