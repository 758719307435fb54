-- A context's calls are those of its core.
use Rattle.std.specs.Prelude.{◌≡◌, false, Result}
use Rattle.atomic_table.specs.Seated.{TableId}
use Rattle.gfx_model.specs.Words.{Handle}
use Rattle.gfx_model.specs.Recorder.{Room}
use Rattle.gfx_model.specs.Resources.{ResourceCall}
use Rattle.gfx_words.specs.declared.refusals.Refusal.{Refusal}
use Rattle.hold_table.specs.Views.{SeatView}
use Rattle.draw_encoder.specs.Calls.{EncoderView}
use Rattle.draw_encoder.specs.declared.items.Recording.{Recording}
use Rattle.context_core.specs.Calls as cores
use Rattle.context_core.specs.Ended as core_ends
use Rattle.context_core.specs.States.{CoreView, own, core_of}
use Rattle.gfx_context.specs.Calls.{Makes, Destroys, Begins}
use Rattle.gfx_context.specs.Ended.{Gathers}
use Rattle.gfx_context.specs.States.{ContextView, core_in}

-- the core of a context on a table, of which the frame is not given between two calls
abbrev pub core_on : {L : Type 0} → TableId → ContextView L → CoreView
core_on table v = core_of table (core_in v)

-- a call of a context is the same call of its core
pub record IsOfCore (L : Type 0) (table : TableId) (old new : ContextView L) : Type 0 where
  pub not_given : (core_in old).is_given ≡ false
  pub makes : (call : ResourceCall) (h : Handle) → Makes call h old new → cores.Makes own call h (core_on table old) (core_on table new)
  pub destroys : (result : Result (Unit {0}) Refusal) (h : Handle) → Destroys result h old new → cores.Destroys own result h (core_on table old) (core_on table new)
  pub begins : (room : Room) (e : EncoderView) → Begins room e old new → cores.Begins own room e (core_on table old) (core_on table new)
  pub gathers : (r : Recording) (seat : SeatView) → Gathers r seat old new → core_ends.Gathers r seat (core_on table old) (core_on table new)

-- so is each call of a context
abbrev pub CallsOfCores : Type 0 → Type 0
CallsOfCores L = (table : TableId) (old new : ContextView L) → IsOfCore L table old new
