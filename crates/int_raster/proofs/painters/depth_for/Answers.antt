use Rattle.tri_cover.specs.Shown.{setup_seen}
use Rattle.int_raster.proofs.painters.depth_for.Goals as goal

pub returns : goal.returns
returns c x y near covered = c.in_ok-depth.ensures.ramp (setup_seen c.args.setup.now).triangle c.requires x y near covered
