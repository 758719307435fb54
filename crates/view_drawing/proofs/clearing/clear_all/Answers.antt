use Rattle.std.proofs.Common.{◌∙◌}
use Rattle.gfx_model.specs.World.{clear_surface}
use Rattle.int_raster.specs.Seen.{surface_seen}
use Rattle.pass_laws.specs.Passed.{Turn}
use Rattle.view_drawing.specs.Passes.{turn_seen}
use Rattle.view_drawing.proofs.PassLaws.{step_more}
use Rattle.view_drawing.proofs.clearing.clear_all.Goals as goal

pub loop-one-preserved : goal.loop-one-preserved
loop-one-preserved c =
    let l = c.loop-one in
    record {
      cleared = step_more (λ s (t : Turn). clear_surface t.view s) turn_seen (surface_seen c.args.surface.now) (surface_seen l.surface) (surface_seen c.clear.new.surface) c.args.views.now l.one-index c.one-item.result c.loop-one-test.true c.one-item.is l.invariant.cleared
          c.clear.ensures.cleared;
      color = c.clear.ensures.color ∙ l.invariant.color;
      depth = c.clear.ensures.depth ∙ l.invariant.depth;
    }
