use Rattle.std.proofs.Common.{map}
use Rattle.std.proofs.lemmas.Result.{on_ok_weaker, on_err_weaker}
use Rattle.int_raster.specs.Seen.{surface_seen}
use Rattle.render_stores.specs.Seen.{stores_seen}
use Rattle.view_drawing.specs.Passes.{turn_seen}
use Rattle.view_drawing.proofs.DrawnLaws.{passed_back}
use Rattle.view_drawing.proofs.drawing.draw_back.Goals as goal

pub returns-clause-drawn : goal.returns-clause-drawn
returns-clause-drawn g c =
    on_ok_weaker c.draw_surface-done.result
    (λ e. passed_back (stores_seen c.args.stores.now) (map turn_seen c.args.pass.cleared.now) (map turn_seen c.args.pass.drawn.now) c.draw_surface-done.new.buffers (surface_seen c.draw_surface-done.new.surface) e)
    c.draw_surface-done.ensures.drawn

pub returns-clause-begun : goal.returns-clause-begun
returns-clause-begun g c =
    on_err_weaker c.draw_surface-done.result
    (λ e. (c.draw_surface-done.new.buffers, (e.1, (λ j. record { back = e.0 j; buffers = c.draw_surface-done.new.buffers; textures = c.args.stores.now.textures; programs = c.args.stores.now.programs }))))
    c.draw_surface-done.ensures.begun
