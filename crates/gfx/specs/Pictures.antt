-- What clauses say of frames that were rendered: their pictures by the definition by index, and the texts of these in a sink.
pub use Rattle.scene_model.specs.Output.{picture_text}
pub use Rattle.io_whole.specs.Whole.{HasFront}
pub use Rattle.store_laws.specs.ByIndex.{Stores, FrameData, first_stores, frame_by_index}
pub use Rattle.store_laws.specs.Run.{pictures_by_index}
pub use Rattle.render_core.specs.Ended.{TextsLaw, KeptLaw, HasTexts, pictures_seen, first_outcome, outcome_then}
pub use Rattle.render_core.specs.Laws.{frames_seen}
pub use Rattle.render_core.specs.Outcomes.{has_ended}
pub use Rattle.render_core.specs.Rendered.{Rendering, AreRendered, seen_by}
pub use Rattle.render_core.specs.Seen.{frame_seen}
