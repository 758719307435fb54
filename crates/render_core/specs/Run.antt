-- A run over the frames that come by a link.
use Rattle.std.specs.Prelude.{◌≡◌, List, ◌++◌}
use Rattle.frame_record.specs.declared.frame.RenderedFrame.{RenderedFrame}
use Rattle.frame_record.specs.Links.{frames_of}
use Rattle.frame_swap.specs.declared.ends.RenderEnd.{RenderEnd}
use Rattle.frame_swap.specs.Ends.{render_table, render_knows}
use Rattle.render_core.specs.Rendered.{Rendering, AreRendered}

-- the frames that an end took were rendered one after another and given back
pub record IsRun (old : Rendering) (end : RenderEnd) (new : Rendering) (after : RenderEnd) : Type 0 where
  pub same : render_table after ≡ render_table end
  pub none_held : (render_knows after).taken ≡ frames_of (render_knows after).returned
  pub rendered : List RenderedFrame
  pub returned : (render_knows after).returned ≡ (render_knows end).returned ++ rendered
  pub frames : AreRendered old rendered new
