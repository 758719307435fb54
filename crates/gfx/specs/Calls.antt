-- What clauses say of tables, contexts and encoders, and of what their calls answer.
pub use Rattle.hold_table.specs.Seats.{table_of, api_table, api_view}
pub use Rattle.hold_table.specs.Views.{first_view}
pub use Rattle.fix_math.specs.Seen.{affine_seen}
pub use Rattle.gfx_words.specs.Seen.{refusal_seen, value_seen}
pub use Rattle.gfx_words.specs.declared.refusals.Refusal.{Refusal}
pub use Rattle.draw_encoder.specs.Calls.{EncoderView, Answers}
pub use Rattle.gfx_context.specs.Calls.{Begins, IsBegin}
pub use Rattle.gfx_context.specs.Ended.{Collects, Ends, GivesWhere, IsEnd, IsBack, MakesWay, notes_of}
pub use Rattle.gfx_context.specs.States.{ContextView, state_of, untouched}
pub use Rattle.gfx_context.specs.declared.report.BackNote.{BackNote}
pub use Rattle.gfx_context.specs.declared.report.FrameReport.{FrameReport}
