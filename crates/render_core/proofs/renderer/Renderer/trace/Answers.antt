use Rattle.std.proofs.Common.{◌∙◌}
use Rattle.std.proofs.lemmas.Result.{IfOk-weaker}
use Rattle.render_stores.specs.Seen.{stores_seen}
use Rattle.render_core.specs.Seen.{frame_seen}
use Rattle.render_core.proofs.renderer.Renderer.trace.Goals as goal

pub returns-clause-history : goal.returns-clause-history
returns-clause-history g c place w content gone s says =
    IfOk-weaker c.trace.result _ _
    (λ made e. e ∙ (c.indexed_law.ensures place (stores_seen c.args.self.now.canvas.stores) w (frame_seen c.args.frame.now) content gone s says).history c.args.x c.args.y)
    c.trace.ensures
