use Rattle.std.proofs.Common.{[], ◌∷◌}
use Rattle.tri_cover.specs.Shown.{setup_seen}
use Rattle.int_raster.proofs.painters.shade_for.Goals as goal

pub returns : goal.returns
returns c x y near covered =
    let t = (setup_seen c.args.setup.now).triangle in
    let red = c.in_ok-red.ensures.ramp t c.requires x y near covered in
    let green = c.in_ok-green.ensures.ramp t c.requires x y near covered in
    let blue = c.in_ok-blue.ensures.ramp t c.requires x y near covered in
    let alpha = c.in_ok-alpha.ensures.ramp t c.requires x y near covered in
    λ i. red i ∷ green i ∷ blue i ∷ alpha i ∷ []
