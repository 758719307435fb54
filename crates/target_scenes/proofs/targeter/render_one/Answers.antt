use Rattle.std.proofs.Common.{ap, ◌∙◌}
use Rattle.store_laws.specs.ByIndex.{frame_by_index}
use Rattle.frame_record.specs.declared.frame.Frame.{Frame}
use Rattle.render_stores.specs.Seen.{stores_seen}
use Rattle.render_core.specs.Seen.{frame_seen}
use Rattle.scene_tracing.proofs.Frames.{shown-stores}
use Rattle.target_scenes.proofs.targeter.render_one.Goals as goal

pub returns-in-Shown-clause-stores : goal.returns-in-Shown-clause-stores
returns-in-Shown-clause-stores c = λ e.
    shown-stores c.render-frame.result.outcome (stores_seen c.args.renderer.now.canvas.stores) (frame_seen c.render-frame.result.frame) (stores_seen c.render-frame.new.self.canvas.stores) c.in-Shown.is c.render-frame.ensures.rendered.stores
    ∙ ap (λ (g : Frame). frame_by_index (stores_seen c.args.renderer.now.canvas.stores) (frame_seen g)) c.render-frame.ensures.frame
