use Rattle.std.proofs.Common.{◌≡◌, ◌++◌, map, drop}
use Rattle.pixel_ops.specs.Seen.{pixel_seen}
use Rattle.target_tracing.specs.Seen.{target_made_seen}
use Rattle.trace_lines.specs.Seen.{doer_seen}
use Rattle.scene_tracing.specs.Asked.{numbers_told}
use Rattle.target_scenes.specs.Numbered.{numbered_target_lines}
use Rattle.target_scenes.proofs.lines.target_history_lines.Given as goal

abbrev pub invariant-loop-made : goal.invariant-loop-made
invariant-loop-made l =
    l.text.items ++ numbered_target_lines (numbers_told l.numbers) (map doer_seen l.history.doers.items) (pixel_seen l.pixel) (drop l.made-index (map target_made_seen l.history.made.items))
    ≡ numbered_target_lines (numbers_told l.numbers) (map doer_seen l.history.doers.items) (pixel_seen l.history.before) (map target_made_seen l.history.made.items)
