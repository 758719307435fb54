-- How the calls are answered: as its core's, and what was given, what came back and the link stay.
use Rattle.std.specs.Prelude.{Result}
use Rattle.gfx_model.specs.Words.{Handle}
use Rattle.gfx_model.specs.Recorder.{Room}
use Rattle.gfx_model.specs.Resources.{ResourceCall}
use Rattle.gfx_words.specs.declared.refusals.Refusal.{Refusal}
use Rattle.draw_encoder.specs.Calls.{EncoderView}
use Rattle.context_core.specs.Calls as cores
use Rattle.gfx_context.specs.States.{ContextView, in_context}

-- an accepted create
abbrev pub Makes : {L : Type 0} → ResourceCall → Handle → (old new : ContextView L) → Type 0
Makes call h old new = cores.Makes in_context call h old new

-- a create
abbrev pub Creates : {L : Type 0} → Result Handle Refusal → ResourceCall → (old new : ContextView L) → Type 0
Creates result call old new = cores.Creates in_context result call old new

-- an update
abbrev pub Updates : {L : Type 0} → Result (Unit {0}) Refusal → ResourceCall → (old new : ContextView L) → Type 0
Updates result call old new = cores.Updates in_context result call old new

-- a call that takes no memory
abbrev pub Changes : {L : Type 0} → Result (Unit {0}) Refusal → ResourceCall → (old new : ContextView L) → Type 0
Changes result call old new = cores.Changes in_context result call old new

-- a destroy
abbrev pub Destroys : {L : Type 0} → Result (Unit {0}) Refusal → Handle → (old new : ContextView L) → Type 0
Destroys result h old new = cores.Destroys in_context result h old new

-- an accepted begin
abbrev pub Begins : {L : Type 0} → Room → EncoderView → (old new : ContextView L) → Type 0
Begins room e old new = cores.Begins in_context room e old new

-- a begin
abbrev pub IsBegin : {L : Type 0} → Result EncoderView Refusal → Room → (old new : ContextView L) → Type 0
IsBegin result room old new = cores.IsBegin in_context (λ e. e) result room old new
