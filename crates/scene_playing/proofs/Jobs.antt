-- The job of an encoder that just began is ready.
use Rattle.std.proofs.Common.{◌≡◌, ℕ, ◌+◌, ◌<◌, ◌≤◌, ◌==◌, ◌^◌, suc, zero, Bool, true, false, if◌then◌else◌, List, [], ◌∷◌, map, length, Option, Some, refl, sym, ap, ◌∙◌, subst, arith}
use Rattle.std.proofs.lemmas.Option.{same_Some, slice_get_within, get_or_from_slice_get}
use Rattle.std.specs.List.{All, slice_get}
use Rattle.gfx_model.specs.Words.{Handle}
use Rattle.gfx_model.specs.World.{Item}
use Rattle.gfx_model.specs.Views.{view_count}
use Rattle.gfx_model.specs.Recorder.{Room, Recorder, begun}
use Rattle.gfx_model.specs.FrameCalls.{Begun, begin_encoder, frame_effect}
use Rattle.scene_model.specs.Scene.{Block, SceneFrame, Scene, views_of}
use Rattle.scene_model.specs.Fold.{lines_of, plan_of, plans}
use Rattle.scene_text.specs.Bounds.{HasFewLines, IsBounded}
use Rattle.scene_progress.specs.Progress.{before_of, all_of, AreGiven}
use Rattle.resource_laws.specs.Lawful.{IsLawful}
use Rattle.hold_table.specs.Views.{fresh}
use Rattle.draw_encoder.specs.Calls.{EncoderView}
use Rattle.gfx_context.specs.Calls.{Begins}
use Rattle.gfx_context.specs.Kept.{IsContext}
use Rattle.gfx_context.specs.States.{ContextView, state_of}
use Rattle.block_recording.specs.Lines.{StandFor}
use Rattle.block_recording.specs.Jobs.{JobView, IsReady}
use Rattle.block_recording.specs.Promised.{IsAccepted, IsStateBefore, IsBlockJob}
use Rattle.block_recording.proofs.Ready.{ready_for}
use Rattle.scene_playing.specs.Recording.{IsRecording}
use Rattle.scene_playing.proofs.Standing.{stand_for}

-- ---- few lines

pub few_in : (s : Scene) (k : ℕ) (f : SceneFrame) → IsBounded s → slice_get s.frames k ≡ Some f → HasFewLines f
few_in s k f bounded is = subst HasFewLines (get_or_from_slice_get s.frames k f f is) (bounded.lines k f (slice_get_within s.frames k f is))

all_rest : {A : Type 0} (P : A → Type 0) (x : A) (xs : List A) → All P (x ∷ xs) → All P xs
all_rest P x xs all k d lt = all (suc k) d (omega (arith, lt))

fewer : (e : ℕ) (b : Block) (bs : List Block) (t : Bool) → length b.lines < 2 ^ 32 → length (lines_of e bs) ≤ 4294967295 → length (if t then b.lines else lines_of e bs) ≤ 4294967295
fewer e b bs true few rest = omega (arith, few)
fewer e b bs false few rest = rest

lines_few : (e : ℕ) (bs : List Block) → All (λ b. length b.lines < 2 ^ 32) bs → length (lines_of e bs) ≤ 4294967295
lines_few e [] all = omega arith
lines_few e (b ∷ bs) all = fewer e b bs (b.encoder == e) (all 0 b (omega arith)) (lines_few e bs (all_rest (λ (c : Block). length c.lines < 2 ^ 32) b bs all))

-- ---- the job

abbrev begun_in : {L : Type 0} → Room → ContextView L → Begun
begun_in room v = record { encoder = v.begun; recorder = begun v.book.resources.frame (view_count v.book.resources.views) room }

abbrev begun_as : EncoderView → Begun
begun_as e = record { encoder = e.seat.encoder; recorder = e.recorder }

begun_is : {L : Type 0} (room : Room) (enc : EncoderView) (old new : ContextView L) → Begins room enc old new → begun_in room old ≡ begun_as enc
begun_is room enc old new b = same_Some (begun_in room old) (begun_as enc) b.made

-- an encoder that just began, with its block of the frame and the names as they stand, is ready
pub ready_when_begun : {L : Type 0} (admits : ℕ → ℕ → List Item → ℕ → Type 0) (views : ℕ) (s : Scene) (k : ℕ) (f : SceneFrame) (names : List (Option Handle)) (room : Room) (old new : ContextView L) (j : JobView)
    → ((e n : ℕ) (items : List Item) (dropped : ℕ) → IsAccepted s e n items dropped → admits e n items dropped)
    → IsContext admits views old → views ≡ views_of s → room ≡ s.room → old.begun < s.encoders → IsBounded s → old.book.resources.frame ≡ k
    → IsRecording s k f names old → IsLawful (before_of s k f).resources → AreGiven (before_of s k f)
    → (gone : List ℕ) × (slice_get (plans s) k ≡ Some (plan_of s k f gone (before_of s k f) (all_of s k f)))
    → Begins room j.encoder old new → j.lines ≡ lines_of old.begun f.blocks → j.names ≡ names → IsReady admits j
ready_when_begun admits views s k f names room old new j admit kept counted is_room below bounded number recording lawful given planned begins lines handles =
    let first = begun_is room j.encoder old new begins in
    let recorder : j.encoder.recorder ≡ begun k (views_of s) s.room =
    sym (ap (λ (b : Begun). b.recorder) first) ∙ ap (λ n. begun n (view_count old.book.resources.views) room) number ∙ ap (λ n. begun k n room) (kept.counted ∙ counted) ∙ ap (begun k (views_of s)) is_room in
    let encoder : j.encoder.seat.encoder ≡ old.begun = ap (λ v. v.encoder) begins.seat in
    let frame : j.encoder.seat.frame ≡ k = ap (λ v. v.frame) begins.seat ∙ sym kept.tied.frame ∙ number in
    ready_for admits s k old.begun f (before_of s k f) j (λ items dropped a. admit old.begun k items dropped a)
    (record { gone = planned.0; after_all = all_of s k f; planned = planned.1 })
    (record {
      below = below;
      whose = (encoder, frame);
      begun = recorder;
      lines = lines;
      few = subst (λ (ls : List _). length ls ≤ 4294967295) (sym lines) (lines_few old.begun f.blocks (few_in s k f bounded recording.there).blocks);
      stand = subst (λ ns. StandFor ns j.encoder.seat (before_of s k f)) (sym handles)
          (subst (λ v. StandFor names v (before_of s k f)) (sym begins.seat) (stand_for admits views old.begun s k f names old kept recording lawful given));
    })
