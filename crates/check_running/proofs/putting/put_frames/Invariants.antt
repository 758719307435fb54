use Rattle.std.proofs.Common.{◌≡◌, ◌≤◌}
use Rattle.std.specs.List.{flat_map}
use Rattle.scene_text.specs.Seen.{scene_seen}
use Rattle.dropped_lines.specs.Dropped.{dropped_text}
use Rattle.scene_check.specs.Checkers.{HasJudged, lines_from}
use Rattle.check_running.specs.Lines.{told_line}
use Rattle.check_running.specs.Putting.{IsPutSoFar}
use Rattle.check_running.proofs.putting.put_frames.Given as goal

abbrev pub invariant-loop-frame : goal.invariant-loop-frame
invariant-loop-frame g l = record {
  judged : HasJudged (scene_seen l.scene) l.frame-index l.checker;
  put : IsPutSoFar (g.N.Sink.held l.fn.lines) (flat_map told_line (lines_from (scene_seen l.scene) l.frame-index l.checker.left)) (dropped_text l.bytes (scene_seen l.scene)) (g.N.Sink.held l.lines);
  sure : g.N.Sink.sure l.lines ≡ g.N.Sink.sure l.fn.lines;
  faults : g.N.Sink.faults l.fn.lines ≤ g.N.Sink.faults l.lines;
}
