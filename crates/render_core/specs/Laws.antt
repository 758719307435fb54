-- Frames that were all shown.
use Rattle.std.specs.Prelude.{◌≡◌, List, map, flat_map, fold}
use Rattle.std.specs.List.{AllByRecursion}
use Rattle.io_edge.specs.Edge.{with_back}
use Rattle.scene_model.specs.Output.{picture_text}
use Rattle.store_laws.specs.ByIndex.{FrameData, frame_by_index}
use Rattle.store_laws.specs.Run.{pictures_by_index}
use Rattle.frame_record.specs.declared.frame.RenderedFrame.{RenderedFrame}
use Rattle.render_core.specs.Outcomes.{IsShown}
use Rattle.render_core.specs.Rendered.{Rendering, AreRendered}
use Rattle.render_core.specs.Seen.{frame_seen}

-- rendered frames as the definitions see them
abbrev pub frames_seen : List RenderedFrame → List FrameData
frames_seen rs = map (λ r. frame_seen r.frame) rs

-- the stores are those after the frames, and the sink holds the text of each frame's picture more
abbrev pub ShownLaw : Type 0
ShownLaw = (old new : Rendering) (rs : List RenderedFrame) → AreRendered old rs new → AllByRecursion (λ r. IsShown r.outcome) rs
    → (new.stores ≡ fold frame_by_index old.stores (frames_seen rs)) × (new.held ≡ with_back old.held (flat_map picture_text (pictures_by_index old.stores (frames_seen rs))))
