-- What the frames of a scene leave.
use Rattle.std.specs.Prelude.{◌≡◌, ℕ, ◌+◌, ◌≤◌, Bool, true, List, map, length, take}
use Rattle.scene_model.specs.Scene.{Scene}
use Rattle.scene_model.specs.Fold.{plans}
use Rattle.scene_model.specs.Journal.{Journal, IsLawfulFront}
use Rattle.scene_laws.specs.SceneFrames.{scene_frames}
use Rattle.scene_progress.specs.Notes.{noted_of}
use Rattle.frame_record.specs.declared.frame.Frame.{Frame}
use Rattle.frame_record.specs.declared.frame.Outcome.{Outcome}
use Rattle.frame_record.specs.declared.frame.RenderedFrame.{RenderedFrame}
use Rattle.frame_record.specs.Links.{frames_of}
use Rattle.render_core.specs.Seen.{frame_seen}
use Rattle.render_core.specs.Ended.{first_outcome}
use Rattle.scene_playing.specs.Given.{HavePlans}
use Rattle.scene_playing.specs.declared.played.FrameNote.{FrameNote}

-- what a frame notes, as a pair of its items and its dropped lines
abbrev pub note_seen : FrameNote → ℕ × ℕ
note_seen n = (n.items, n.dropped)

-- the frames that ended have a lawful journal and the definition's notes; those that were given are the first of them by index, each with what the plan of its place has of
-- each encoder, and at most the last that ended was not given; it is whole exactly where all were given
pub record AreEnded (s : Scene) (given : List Frame) (journal : Journal) (notes : List (ℕ × ℕ)) (is_whole : Bool) : Type 0 where
  pub lawful : IsLawfulFront s journal
  pub noted : notes ≡ map noted_of (take (length journal) (plans s))
  pub few : (length given ≤ length journal) × (length journal ≤ length given + 1)
  pub seen : map frame_seen given ≡ scene_frames s (take (length given) journal)
  pub gathered : HavePlans (plans s) journal given
  pub whole : is_whole ≡ true → length given ≡ length s.frames
  pub given_all : length given ≡ length s.frames → is_whole ≡ true

-- the same when all that were given came back, with the outcome of the first that was not shown
pub record ArePlayed (s : Scene) (given : List Frame) (back : List RenderedFrame) (journal : Journal) (notes : List (ℕ × ℕ)) (outcome : Outcome) (is_whole : Bool) : Type 0 where
  pub ended : AreEnded s given journal notes is_whole
  pub all_back : given ≡ frames_of back
  pub outcome_is : outcome ≡ first_outcome back
