-- How one frame of a scene ends.
use Rattle.std.specs.Prelude.{◌≡◌, ℕ, ◌+◌, Bool, true, false, List, [], ◌∷◌, ◌++◌, Option, Some, None, slice_get}
use Rattle.gfx_model.specs.Words.{Handle}
use Rattle.scene_model.specs.Scene.{Scene, SceneFrame}
use Rattle.scene_model.specs.Fold.{FramePlan, plans}
use Rattle.scene_model.specs.Journal.{Entry, IsLawfulFrame}
use Rattle.scene_laws.specs.SceneFrames.{frame_data}
use Rattle.scene_progress.specs.Progress.{start_of}
use Rattle.scene_progress.specs.Notes.{noted_of}
use Rattle.frame_record.specs.declared.frame.Frame.{Frame}
use Rattle.frame_record.specs.declared.frame.Outcome.{Outcome}
use Rattle.render_core.specs.Seen.{frame_seen}
use Rattle.render_core.specs.Ended.{outcome_then}
use Rattle.gfx_context.specs.States.{ContextView}
use Rattle.gfx_context.specs.declared.report.BackNote.{BackNote}
use Rattle.scene_playing.specs.Given.{HasPlan}
use Rattle.scene_playing.specs.Recording.{IsAt}

-- the frame was given, is the scene's frame k by index, and has what the plan has of each encoder; the context is at the start of the next one
pub record IsGiven {L : Type 0} (s : Scene) (k : ℕ) (f : SceneFrame) (plan : FramePlan) (entries : List Entry) (handles : List (Option Handle)) (old new : ContextView L) : Type 0 where
  pub frame : Frame
  pub given : new.given ≡ old.given ++ frame ∷ []
  pub seen : frame_seen frame ≡ frame_data s k (start_of s k) f entries
  pub gathered : HasPlan plan entries frame
  pub next : IsAt s (k + 1) handles new

-- the frame was given, or none was
abbrev pub IsGivenWhere : {L : Type 0} → Bool → Scene → ℕ → SceneFrame → FramePlan → List Entry → List (Option Handle) → (old new : ContextView L) → Type 0
IsGivenWhere true s k f plan entries handles old new = IsGiven s k f plan entries handles old new
IsGivenWhere false s k f plan entries handles old new = new.given ≡ old.given

-- frame k ended: its journal is lawful, its note is the definition's, and it was given or not
pub record FrameEnds {L : Type 0} (s : Scene) (k : ℕ) (f : SceneFrame) (entries : List Entry) (note : ℕ × ℕ) (is_given : Bool) (handles : List (Option Handle)) (old new : ContextView L) : Type 0 where
  pub plan : FramePlan
  pub planned : slice_get (plans s) k ≡ Some plan
  pub lawful : IsLawfulFrame plan entries
  pub noted : note ≡ noted_of plan
  pub gives : IsGivenWhere is_given s k f plan entries handles old new

-- the outcome of the first frame that was not shown, when one more came back, or none
abbrev pub first_after : Outcome → Option BackNote → Outcome
first_after first None = first
first_after first (Some n) = outcome_then first n.outcome
