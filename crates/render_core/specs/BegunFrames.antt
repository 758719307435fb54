-- What contracts see of a frame that is begun.
use Rattle.std.specs.Prelude.{ℕ}
use Rattle.frame_record.specs.declared.frame.Frame.{Frame}
use Rattle.render_core.specs.declared.renderer.Renderer.{Renderer}
use Rattle.render_core.specs.declared.stages.Stage.{Stage}

-- between two passes: the renderer as it was at the begin, the frame, and where it stands
pub record BegunView (P : Type 0) : Type 0 where
  pub opening : Renderer P
  pub frame : Frame
  pub stage : Stage

-- in a pass: the same, and how many views are entered at the pass's end
pub record LentView (P : Type 0) : Type 0 where
  pub opening : Renderer P
  pub frame : Frame
  pub entered : ℕ
