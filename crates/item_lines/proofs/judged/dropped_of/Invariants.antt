use Rattle.std.proofs.Common.{◌≡◌, ◌++◌, map}
use Rattle.scene_text.specs.Seen.{scene_seen}
use Rattle.dropped_lines.specs.Dropped.{dropped_with}
use Rattle.dropped_lines.specs.Verdicts.{verdicts}
use Rattle.scene_check.specs.Checkers.{HasJudged, lines_from}
use Rattle.scene_check.specs.Found.{line_told}
use Rattle.item_lines.proofs.judged.dropped_of.Given as goal

abbrev pub invariant-loop-frame : goal.invariant-loop-frame
invariant-loop-frame l = record {
  judged : HasJudged (scene_seen l.scene) l.frame-index l.checker;
  left : l.dropped.items ++ lines_from (scene_seen l.scene) l.frame-index l.checker.left ≡ map line_told (dropped_with l.numbers (verdicts (scene_seen l.scene)));
}
