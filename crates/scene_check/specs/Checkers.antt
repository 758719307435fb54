-- What a checker has judged, and what is left to tell.
use Rattle.std.specs.Prelude.{◌≡◌, ℕ, List, map, drop, Option}
use Rattle.gfx_model.specs.Words.{Handle}
use Rattle.scene_model.specs.Scene.{Scene}
use Rattle.resource_book.specs.Written.{BookView}
use Rattle.scene_progress.specs.Progress.{progress_before}
use Rattle.dropped_lines.specs.Verdicts.{verdicts_from}
use Rattle.dropped_lines.specs.Dropped.{dropped_with}
use Rattle.scene_check.specs.declared.found.DroppedLine.{DroppedLine}
use Rattle.scene_check.specs.Found.{line_told}
use Rattle.scene_check.specs.Scenes.{IsReached}

-- the numbers of the lines that were not judged, the things and the names so far, and the number of the next frame
pub record CheckerView : Type 0 where
  pub left : List ℕ
  pub book : BookView
  pub handles : List (Option Handle)
  pub number : ℕ

-- the first k frames were judged
pub record HasJudged (s : Scene) (k : ℕ) (c : CheckerView) : Type 0 where
  pub reached : IsReached s k c.book c.handles
  pub number : c.number ≡ k

-- the dropped lines of the frames from number k on, where these numbers of lines are left
abbrev pub lines_from : Scene → ℕ → List ℕ → List DroppedLine
lines_from s k left = map line_told (dropped_with left (verdicts_from s k (progress_before s k) (drop k s.frames)))
