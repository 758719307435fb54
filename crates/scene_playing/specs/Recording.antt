-- What a context has of the frame of a scene that it records.
use Rattle.std.specs.Prelude.{◌≡◌, ℕ, ◌+◌, ◌<◌, false, List, length, Option, Some, fold, slice_get}
use Rattle.gfx_model.specs.Words.{Handle}
use Rattle.scene_model.specs.Scene.{Scene, SceneFrame}
use Rattle.call_laws.specs.Calls.{Written, after_call, nothing_written}
use Rattle.scene_laws.specs.SceneFrames.{calls_of, written_by}
use Rattle.scene_lines.specs.Played.{StandsFor}
use Rattle.scene_progress.specs.Progress.{start_of, before_of, all_of}
use Rattle.gfx_context.specs.States.{ContextView}

-- the context is at the start of frame k: it has what the definition's calls and names are there, nothing is written, no encoder was begun, and it is
-- not ended
pub record IsAt {L : Type 0} (s : Scene) (k : ℕ) (handles : List (Option Handle)) (c : ContextView L) : Type 0 where
  pub stands : StandsFor (nothing_written (start_of s k).resources) (start_of s k) c.book handles
  pub none_begun : c.begun ≡ 0
  pub running : c.is_ended ≡ false
  pub first : c.first ≡ 1
  pub many : length handles ≡ length s.names

-- what the calls of a frame's `before` lines wrote
abbrev pub written_before : Scene → ℕ → SceneFrame → Written
written_before s k f = fold after_call (nothing_written (start_of s k).resources) (calls_of s.names (start_of s k) f.before)

-- the context records frame k, whose `before` lines were played, and names stand for handles as they did after these
pub record IsRecording {L : Type 0} (s : Scene) (k : ℕ) (f : SceneFrame) (names : List (Option Handle)) (c : ContextView L) : Type 0 where
  pub there : slice_get s.frames k ≡ Some f
  pub stands : StandsFor (written_before s k f) (before_of s k f) c.book names
  pub running : c.is_ended ≡ false
  pub first : c.first ≡ 1

-- one encoder more was begun
pub record BeginsMore {L : Type 0} (old new : ContextView L) : Type 0 where
  pub more : new.begun ≡ old.begun + 1
  pub same : new ≡ record old { seat = new.seat; begun = new.begun }

-- so many encoders were begun, and nothing else changed but what the seat knows
pub record HasBegun {L : Type 0} (many : ℕ) (old new : ContextView L) : Type 0 where
  pub begun : new.begun ≡ many
  pub same : new ≡ record old { seat = new.seat; begun = new.begun }

-- all lines of frame k were played, and all its encoders were begun
pub record IsRecorded {L : Type 0} (s : Scene) (k : ℕ) (f : SceneFrame) (handles : List (Option Handle)) (c : ContextView L) : Type 0 where
  pub there : slice_get s.frames k ≡ Some f
  pub stands : StandsFor (written_by s.names (start_of s k) f) (all_of s k f) c.book handles
  pub begun : c.begun ≡ s.encoders
  pub running : c.is_ended ≡ false
  pub first : c.first ≡ 1
  pub many : length handles ≡ length s.names
