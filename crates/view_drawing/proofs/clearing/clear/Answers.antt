use Rattle.std.proofs.Common.{ap, ◌∙◌}
use Rattle.int_raster.specs.Seen.{surface_seen}
use Rattle.int_raster.specs.Wiping.{wiped}
use Rattle.view_drawing.proofs.clearing.clear.Goals as goal

pub returns-clause-cleared : goal.returns-clause-cleared
returns-clause-cleared c = c.wipe_surface.ensures.wiped ∙ ap (wiped (surface_seen c.args.surface.now)) c.wipe_of-wipe.ensures
