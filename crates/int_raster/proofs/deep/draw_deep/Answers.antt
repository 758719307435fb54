use Rattle.std.proofs.Common.{◌≤◌, length, refl, arith, ap, ◌∙◌}
use Rattle.std.proofs.lemmas.List.{take_all}
use Rattle.int_raster.specs.Joined.{in_turn}
use Rattle.int_raster.specs.Places.{deep_pixels}
use Rattle.int_raster.proofs.Raster.{setups_in_turn}
use Rattle.int_raster.proofs.deep.draw_deep.Goals as goal

pub loop-at-init : goal.loop-at-init
loop-at-init c = record { within = omega arith; done = refl }

pub loop-at-preserved : goal.loop-at-preserved
loop-at-preserved c = record {
  within = c.draw_next-at.ensures.within;
  done = c.draw_next-at.ensures.drawn (deep_pixels c.args.colors.now c.args.depths.now) c.loop-at.invariant.done;
}

pub returns : goal.returns
returns c =
    let all : length c.args.triangles.now ≤ c.loop-at.at = omega arith in
    c.loop-at.invariant.done
    ∙ ap (in_turn c.args.rows.now c.args.draw.now (deep_pixels c.args.colors.now c.args.depths.now)) (take_all c.loop-at.at c.args.triangles.now all)
    ∙ setups_in_turn c.args.draw.now c.args.rows.now.width c.args.rows.now.top (deep_pixels c.args.colors.now c.args.depths.now) c.args.triangles.now
