-- What its core answers, a context answers.
use Rattle.std.proofs.Common.{◌≡◌, List, None, Result, Ok, Err, ap, ◌∙◌, subst}
use Rattle.gfx_model.specs.Words.{Handle}
use Rattle.gfx_model.specs.Recorder.{Room}
use Rattle.gfx_model.specs.Resources.{ResourceCall}
use Rattle.gfx_model.specs.FrameCalls.{begin_encoder, frame_refusal}
use Rattle.gfx_words.specs.declared.refusals.Refusal.{Refusal}
use Rattle.frame_record.specs.declared.frame.Frame.{Frame}
use Rattle.frame_record.specs.declared.frame.RenderedFrame.{RenderedFrame}
use Rattle.context_core.specs.Calls as cores
use Rattle.context_core.specs.States.{CoreView, own}
use Rattle.context_core.specs.States as states
use Rattle.gfx_context.specs.Calls.{Creates, Updates, Changes, Destroys}
use Rattle.gfx_context.specs.States.{ContextView, context_of, state_of}

module _ {L : Type 0} (given : List Frame) (back : List RenderedFrame) (link : L) (a b : CoreView) where
  abbrev now : CoreView → ContextView L
  now c = context_of c.state given back link

  creates_here : (call : ResourceCall) (result : Result Handle Refusal) → cores.Creates own result call a b → Creates result call (now a) (now b)
  creates_here call (Ok h) m = record { accepted = m.accepted; made = m.made; placed = m.placed; after = ap now m.after }
  creates_here call (Err r) m = (m.0, ap now m.1)

  pub creates_told : (call : ResourceCall) (result : Result Handle Refusal) → cores.Creates own result call a b → (old : ContextView L) → now a ≡ old → Creates result call old (now b)
  creates_told call result m old e = subst (λ (o : ContextView L). Creates result call o (now b)) e (creates_here call result m)

  updates_here : (call : ResourceCall) (result : Result (Unit {0}) Refusal) → cores.Updates own result call a b → Updates result call (now a) (now b)
  updates_here call (Ok u) m = (m.0, ap now m.1)
  updates_here call (Err r) m = (m.0, ap now m.1)

  pub updates_told : (call : ResourceCall) (result : Result (Unit {0}) Refusal) → cores.Updates own result call a b → (old : ContextView L) → now a ≡ old → Updates result call old (now b)
  updates_told call result m old e = subst (λ (o : ContextView L). Updates result call o (now b)) e (updates_here call result m)

  changes_here : (call : ResourceCall) (result : Result (Unit {0}) Refusal) → cores.Changes own result call a b → Changes result call (now a) (now b)
  changes_here call (Ok u) m = (m.0, ap now m.1)
  changes_here call (Err r) m = (m.0, ap now m.1)

  pub changes_told : (call : ResourceCall) (result : Result (Unit {0}) Refusal) → cores.Changes own result call a b → (old : ContextView L) → now a ≡ old → Changes result call old (now b)
  changes_told call result m old e = subst (λ (o : ContextView L). Changes result call o (now b)) e (changes_here call result m)

  destroys_here : (h : Handle) (result : Result (Unit {0}) Refusal) → cores.Destroys own result h a b → Destroys result h (now a) (now b)
  destroys_here h (Ok u) m = (m.0, ap now m.1)
  destroys_here h (Err r) m = (m.0, ap now m.1)

  pub destroys_told : (h : Handle) (result : Result (Unit {0}) Refusal) → cores.Destroys own result h a b → (old : ContextView L) → now a ≡ old → Destroys result h old (now b)
  destroys_told h result m old e = subst (λ (o : ContextView L). Destroys result h o (now b)) e (destroys_here h result m)

  -- a begin that is refused for want of memory
  pub refused_told : (room : Room) → frame_refusal (states.state_of a.state) (begin_encoder room) ≡ None → b ≡ a → (old : ContextView L) → now a ≡ old → (frame_refusal (state_of old) (begin_encoder room) ≡ None) × (now b ≡ old)
  refused_told room accepted same old e = (subst (λ (o : ContextView L). frame_refusal (state_of o) (begin_encoder room) ≡ None) e accepted, ap now same ∙ e)
