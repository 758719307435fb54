-- Encoders begin, and the frame stays.
use Rattle.std.proofs.Common.{◌≡◌, ℕ, ◌+◌, List, Option, refl, sym, ap, ◌∙◌, subst, arith}
use Rattle.gfx_model.specs.Words.{Handle}
use Rattle.scene_model.specs.Scene.{SceneFrame, Scene}
use Rattle.gfx_context.specs.Calls.{Begins}
use Rattle.gfx_model.specs.Recorder.{Room}
use Rattle.draw_encoder.specs.Calls.{EncoderView}
use Rattle.gfx_context.specs.States.{ContextView}
use Rattle.scene_playing.specs.Recording.{IsRecording, BeginsMore, HasBegun}

-- one more was begun
pub begins_more : {L : Type 0} (room : Room) (e : EncoderView) (old new : ContextView L) → Begins room e old new → BeginsMore old new
begins_more room e old new b = record {
  more = ap (λ v. v.begun) b.after;
  same = b.after ∙ (λ i. record old { seat = (ap (λ v. v.seat) (sym b.after)) i; begun = (ap (λ v. v.begun) (sym b.after)) i });
}

-- a frame whose encoders begin is recorded still
pub records_still : {L : Type 0} (s : Scene) (f : SceneFrame) (names : List (Option Handle)) (old new : ContextView L) → new ≡ record old { seat = new.seat; begun = new.begun }
    → IsRecording s old.book.resources.frame f names old → IsRecording s new.book.resources.frame f names new
records_still s f names old new same r =
    subst (λ c. IsRecording s c.book.resources.frame f names c) (sym same) (record { there = r.there; stands = r.stands; running = r.running; first = r.first })

-- another seat, and another number of encoders
abbrev with_seat : {L : Type 0} → (new old : ContextView L) → ContextView L
with_seat new old = record old { seat = new.seat; begun = new.begun }

again : {L : Type 0} (old mid new : ContextView L) → mid ≡ with_seat mid old → with_seat new mid ≡ with_seat new old
again old mid new e = ap (with_seat new) e

-- one after so many
pub begun_then : {L : Type 0} (many : ℕ) (old mid new : ContextView L) → HasBegun many old mid → BeginsMore mid new → HasBegun (many + 1) old new
begun_then many old mid new a b = record {
  begun = b.more ∙ ap (λ n. n + 1) a.begun;
  same = b.same ∙ again old mid new a.same;
}

-- so many after one
pub begun_after : {L : Type 0} (many : ℕ) (old mid new : ContextView L) → BeginsMore old mid → HasBegun many mid new → HasBegun many old new
begun_after many old mid new a b = record { begun = b.begun; same = b.same ∙ again old mid new a.same }

-- none more
pub begun_so_far : {L : Type 0} (c : ContextView L) → HasBegun c.begun c c
begun_so_far c = record { begun = refl; same = refl }
