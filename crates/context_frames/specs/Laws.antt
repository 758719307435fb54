-- The laws of a context's frames.
use Rattle.std.specs.Prelude.{◌≡◌, ℕ, List, Option, Some, slice_get}
use Rattle.gfx_model.specs.Frames.{collected}
use Rattle.gfx_model.specs.Views.{view_count}
use Rattle.gfx_model.specs.Words.{Handle}
use Rattle.schedule_model.specs.Machine.{Place}
use Rattle.call_laws.specs.Calls.{Written}
use Rattle.scene_model.specs.Scene.{Scene, SceneFrame, views_of}
use Rattle.scene_model.specs.Fold.{Progress, after_lines, plan_of, plans}
use Rattle.scene_laws.specs.SceneFrames.{written_by, frame_data}
use Rattle.scene_lines.specs.Played.{StandsFor}
use Rattle.draw_encoder.specs.declared.items.Recording.{Recording}
use Rattle.frame_record.specs.declared.frame.Frame.{Frame}
use Rattle.frame_record.specs.Seen.{recordings_seen}
use Rattle.gfx_context.specs.Ended.{IsFrameOf}
use Rattle.gfx_context.specs.Gathered.{AreOfFrame}
use Rattle.gfx_context.specs.States.{ContextView}
use Rattle.block_recording.specs.Promised.{IsAccepted}
use Rattle.render_core.specs.Seen.{frame_seen}
use Rattle.context_frames.specs.Recorded.{IsRecorded}

-- recordings of exactly a scene's encoders in frame k, each with just what the scene's block gives, are the frame's plan
abbrev pub RecordedLaw : Type 0
RecordedLaw = (s : Scene) (k : ℕ) (f : SceneFrame) (gone : List ℕ) (before all : Progress) (places : List Place) (rs : List Recording)
    → slice_get (plans s) k ≡ Some (plan_of s k f gone before all) → view_count all.resources.views ≡ views_of s
    → AreOfFrame (IsAccepted s) (views_of s) k places s.encoders rs → IsRecorded (plan_of s k f gone before all) rs

-- the state after the `before` lines of a frame, from that at its start
abbrev pub after_before : Scene → SceneFrame → Progress → Progress
after_before s f first = after_lines s.names first f.before

-- the state after all lines of a frame
abbrev pub after_all : Scene → SceneFrame → Progress → Progress
after_all s f first = after_lines s.names (after_before s f first) f.beside

-- the frame that a context gives, whose calls wrote what the lines of frame k write, and whose encoders recorded what the scene's blocks give,
-- is the scene's frame by index, by the journal of the recordings
abbrev pub GivenFrameLaw : Type 0 → Type 0
GivenFrameLaw L = (s : Scene) (k : ℕ) (f : SceneFrame) (gone : List ℕ) (first : Progress) (places : List Place)
    (old : ContextView L) (frame : Frame) (w : Written) (handles : List (Option Handle))
    → slice_get (plans s) k ≡ Some (plan_of s k f gone (after_before s f first) (after_all s f first)) → w ≡ written_by s.names first f
    → StandsFor w (after_all s f first) old.book handles → AreOfFrame (IsAccepted s) (views_of s) k places s.encoders old.gathered
    → view_count (after_all s f first).resources.views ≡ views_of s → IsFrameOf old frame
    → frame_seen frame ≡ frame_data s k first f (collected (recordings_seen old.gathered))
