-- The definitions that an engine's clauses cite: what encoders record, what calls are refused for, state and
-- stencil words, items, views, and the first world.
pub use Rattle.schedule_model.specs.Held.{count_of}
pub use Rattle.schedule_model.specs.Machine.{Place}
pub use Rattle.gfx_model.specs.FrameCalls.{Begun, end_frame, frame_refusal}
pub use Rattle.gfx_model.specs.Raster.{Affine, Texels}
pub use Rattle.gfx_model.specs.Recorder.{Recorder, DrawState, EncoderCall, set_state, set_stencil, set_transform, set_uniform, set_vertices, submit, after, refusals}
pub use Rattle.gfx_model.specs.Recorder.{Room, begun, plain_state}
pub use Rattle.gfx_model.specs.Resources.{Refusal as ModelRefusal, first_refusal, or_refusal}
pub use Rattle.gfx_model.specs.Views.{fewest_views, view_count}
pub use Rattle.gfx_model.specs.Words.{UniformValue, vec4_value}
pub use Rattle.gfx_model.specs.Words.{is_state_word, write_mask, depth_test_of, writes_depth, is_blended, cull_of, primitive_of, is_stencil_word}
pub use Rattle.state_words.specs.States.{state_word}
pub use Rattle.state_words.specs.Stencils.{stencil_word}
pub use Rattle.gfx_model.specs.World.{Item, UniformSet, draw_item, stored_vertices, first_world}
