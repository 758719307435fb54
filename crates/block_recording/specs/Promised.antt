-- What the encoders of a scene may end with.
use Rattle.std.specs.Prelude.{◌≡◌, ◌<◌, ◌≤◌, ℕ, List, length, Some, slice_get}
use Rattle.gfx_model.specs.World.{Item}
use Rattle.gfx_model.specs.Recorder.{begun}
use Rattle.scene_model.specs.Scene.{Scene, SceneFrame, views_of}
use Rattle.scene_model.specs.Fold.{Progress, lines_of, plan_of, plans, accepted}
use Rattle.block_recording.specs.Lines.{StandFor}
use Rattle.block_recording.specs.Jobs.{JobView, IsReady}

-- an encoder of a frame ends with just what the scene's block gives: its accepted items, and the number of its dropped lines
abbrev pub IsAccepted : Scene → (encoder frame : ℕ) → List Item → ℕ → Type 0
IsAccepted s e k items dropped = (items ≡ (accepted s k e).items) × (dropped ≡ (accepted s k e).dropped)

-- a state is that after the `before` lines of frame k, which the frame's plan is made by
pub record IsStateBefore (s : Scene) (k : ℕ) (f : SceneFrame) (p : Progress) : Type 0 where
  pub gone : List ℕ
  pub after_all : Progress
  pub planned : slice_get (plans s) k ≡ Some (plan_of s k f gone p after_all)

-- a job is made of an encoder of the scene that just began, its block in the frame, and the names after the `before` lines
pub record IsBlockJob (s : Scene) (k e : ℕ) (f : SceneFrame) (p : Progress) (j : JobView) : Type 0 where
  pub below : e < s.encoders
  pub whose : (j.encoder.seat.encoder ≡ e) × (j.encoder.seat.frame ≡ k)
  pub begun : j.encoder.recorder ≡ begun k (views_of s) s.room
  pub lines : j.lines ≡ lines_of e f.blocks
  pub few : length j.lines ≤ 4294967295
  pub stand : StandFor j.names j.encoder.seat p

-- a job of a scene's block is ready, where encoders may end with just what the scene's blocks give
abbrev pub BlockJobsAreReady : Type 0
BlockJobsAreReady = (s : Scene) (k e : ℕ) (f : SceneFrame) (p : Progress) (j : JobView) → IsStateBefore s k f p → IsBlockJob s k e f p j → IsReady (IsAccepted s) j
