use Rattle.std.proofs.Common.{◌≡◌, ◌≤◌, map, take}
use Rattle.scene_text.specs.Seen.{name_seen, resource_line_seen}
use Rattle.scene_lines.specs.Played.{LinesPlayed}
use Rattle.scene_lines.proofs.playing.play_lines.Given as goal

abbrev pub invariant-loop-line : goal.invariant-loop-line
invariant-loop-line g l =
    LinesPlayed (map name_seen l.names) (take l.line-index (map resource_line_seen l.lines)) l.dropped (g.B.ResourceCalls.book l.fn.calls) (g.B.ResourceCalls.book l.calls) l.fn.handles l.handles
    × (g.B.ResourceCalls.rest l.calls ≡ g.B.ResourceCalls.rest l.fn.calls)
    × (l.dropped ≤ l.line-index)
