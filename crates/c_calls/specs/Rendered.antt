-- The renderer of a context.
use Rattle.std.specs.Prelude.{Some, None}
use Rattle.render_core.specs.declared.renderer.Renderer.{Renderer}
use Rattle.render_core.specs.Rendered.{Rendering, seen_by}
use Rattle.c_calls.specs.declared.picture.PictureSink.{PictureSink}

-- its stores, the outcomes of its frames, and what its sink holds, how often it failed and how many bytes it takes
abbrev pub rendering_of : Renderer PictureSink → Rendering
rendering_of r = seen_by (λ s. Some s.text.items) (λ _. None) (λ s. s.faults) (λ s. Some s.capacity) r
