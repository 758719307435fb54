use Rattle.std.proofs.Common.{◌≡◌, ◌++◌, map, drop}
use Rattle.pixel_ops.specs.Seen.{pixel_seen}
use Rattle.frame_tracing.specs.Seen.{made_seen}
use Rattle.trace_lines.specs.Seen.{doer_seen}
use Rattle.trace_lines.specs.Numbered.{numbered_lines}
use Rattle.scene_tracing.specs.Asked.{numbers_told}
use Rattle.scene_tracing.proofs.lines.history_lines.Given as goal

abbrev pub invariant-loop-made : goal.invariant-loop-made
invariant-loop-made l =
    l.text.items ++ numbered_lines (numbers_told l.numbers) (map doer_seen l.history.doers.items) (pixel_seen l.pixel) (drop l.made-index (map made_seen l.history.made.items))
    ≡ numbered_lines (numbers_told l.numbers) (map doer_seen l.history.doers.items) (pixel_seen l.history.before) (map made_seen l.history.made.items)
