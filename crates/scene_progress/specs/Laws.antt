-- The laws of what a player of a scene has reached that goes frame by frame.
use Rattle.std.specs.Prelude.{◌≡◌, ℕ, ◌+◌, ◌≤◌, List, [], ◌∷◌, ◌++◌, map, length, take, Some, slice_get}
use Rattle.resource_laws.specs.Lawful.{IsLawful}
use Rattle.scene_model.specs.Scene.{SceneFrame, Scene}
use Rattle.scene_model.specs.Fold.{FramePlan, plan_of, plans, first_progress}
use Rattle.scene_model.specs.Journal.{Entry, Journal, IsLawfulFrame, AreLawful, IsLawfulFront, pictures}
use Rattle.scene_model.specs.Output.{report}
use Rattle.scene_laws.specs.SceneFrames.{frame_data, scene_frames}
use Rattle.scene_progress.specs.Progress.{progress_before, start_of, before_of, all_of, AreGiven}
use Rattle.scene_progress.specs.Notes.{noted_of, note_lines}

-- ---- the state before a frame

-- before the first frame nothing is made and named
abbrev pub FirstLaw : Type 0
FirstLaw = (s : Scene) → progress_before s 0 ≡ first_progress s

-- the state before the next frame is that after all lines of this one
abbrev pub NextLaw : Type 0
NextLaw = (s : Scene) (k : ℕ) (f : SceneFrame) → slice_get s.frames k ≡ Some f → progress_before s (k + 1) ≡ all_of s k f

-- ---- plans

-- a frame's plan is that by the states after its `before` lines and after all its lines
abbrev pub PlanLaw : Type 0
PlanLaw = (s : Scene) (k : ℕ) (f : SceneFrame) → slice_get s.frames k ≡ Some f
    → (gone : List ℕ) × (slice_get (plans s) k ≡ Some (plan_of s k f gone (before_of s k f) (all_of s k f)))

-- there is a plan for each frame
abbrev pub PlanCountLaw : Type 0
PlanCountLaw = (s : Scene) → length (plans s) ≡ length s.frames

-- ---- frames by index

-- a journal of no frame gives no frame
abbrev pub NoFramesLaw : Type 0
NoFramesLaw = (s : Scene) → scene_frames s [] ≡ []

-- a frame more in the journal gives the frame by index of the state at its start
abbrev pub FramesMoreLaw : Type 0
FramesMoreLaw = (s : Scene) (k : ℕ) (f : SceneFrame) (j : Journal) (e : List Entry) → slice_get s.frames k ≡ Some f → length j ≡ k
    → scene_frames s (j ++ e ∷ []) ≡ scene_frames s j ++ frame_data s k (start_of s k) f e ∷ []

-- a journal that is no longer than the scene gives a frame for each of its own
abbrev pub FrameCountLaw : Type 0
FrameCountLaw = (s : Scene) (j : Journal) → length j ≤ length s.frames → length (scene_frames s j) ≡ length j

-- ---- lawful journals

-- a journal of no frame is lawful
abbrev pub NoneLawfulLaw : Type 0
NoneLawfulLaw = (s : Scene) → AreLawful (plans s) []

-- a lawful journal with a lawful frame more is lawful
abbrev pub LawfulMoreLaw : Type 0
LawfulMoreLaw = (s : Scene) (k : ℕ) (p : FramePlan) (j : Journal) (e : List Entry) → slice_get (plans s) k ≡ Some p → length j ≡ k
    → AreLawful (plans s) j → IsLawfulFrame p e → AreLawful (plans s) (j ++ e ∷ [])

-- a lawful journal has at most as many frames as the scene
abbrev pub LawfulCountLaw : Type 0
LawfulCountLaw = (s : Scene) (j : Journal) → IsLawfulFront s j → length j ≤ length s.frames

-- ---- the first frames of a journal

-- the first frames of a journal give the first frames by index
abbrev pub FramesFrontLaw : Type 0
FramesFrontLaw = (s : Scene) (n : ℕ) (j : Journal) → scene_frames s (take n j) ≡ take n (scene_frames s j)

-- the first frames of a journal give the first pictures
abbrev pub PicturesFrontLaw : Type 0
PicturesFrontLaw = (s : Scene) (n : ℕ) (j : Journal) → pictures s (take n j) ≡ take n (pictures s j)

-- a journal that is no longer than the scene gives a picture for each of its frames
abbrev pub PictureCountLaw : Type 0
PictureCountLaw = (s : Scene) (j : Journal) → length j ≤ length s.frames → length (pictures s j) ≡ length j

-- ---- the state after a frame's `before` lines

-- the state of the calls is lawful
abbrev pub LawfulStateLaw : Type 0
LawfulStateLaw = (s : Scene) (k : ℕ) (f : SceneFrame) → slice_get s.frames k ≡ Some f → IsLawful (before_of s k f).resources

-- each name stands for a handle that was given
abbrev pub GivenLaw : Type 0
GivenLaw = (s : Scene) (k : ℕ) (f : SceneFrame) → slice_get s.frames k ≡ Some f → AreGiven (before_of s k f)

-- the state of the calls is of this frame
abbrev pub FrameNumberLaw : Type 0
FrameNumberLaw = (s : Scene) (k : ℕ) (f : SceneFrame) → slice_get s.frames k ≡ Some f → (before_of s k f).resources.frame ≡ k

-- ---- the report

-- the lines of all frames' numbers are the report
abbrev pub ReportLaw : Type 0
ReportLaw = (s : Scene) → note_lines 0 (map noted_of (plans s)) ≡ report s

-- a frame more adds its numbers
abbrev pub NotedMoreLaw : Type 0
NotedMoreLaw = (s : Scene) (k : ℕ) (p : FramePlan) → slice_get (plans s) k ≡ Some p
    → map noted_of (take (k + 1) (plans s)) ≡ map noted_of (take k (plans s)) ++ noted_of p ∷ []
