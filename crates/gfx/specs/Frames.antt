-- What clauses say of frames: what they are made of, where they were given, and how they came back.
pub use Rattle.draw_encoder.specs.Bundles.{items_of}
pub use Rattle.draw_encoder.specs.declared.items.Recording.{Recording}
pub use Rattle.frame_record.specs.Links.{frames_of}
pub use Rattle.frame_record.specs.declared.frame.Frame.{Frame}
pub use Rattle.frame_record.specs.declared.frame.Outcome.{Outcome}
pub use Rattle.frame_record.specs.declared.frame.Outcome.TheVariants as outcomes
pub use Rattle.frame_record.specs.declared.frame.RenderedFrame.{RenderedFrame}
pub use Rattle.gfx_context.specs.Gathered.{IsCollected, AreOfFrame, encoders_in, dropped_in, once_below}
