use Rattle.std.proofs.Common.{◌≡◌, map, drop}
use Rattle.gfx_words.specs.Seen.{entry_seen}
use Rattle.scene_playing.specs.Order.{ascend_from}
use Rattle.scene_playing.proofs.ordered.ascend.Given as goal

abbrev pub invariant-loop-entry : goal.invariant-loop-entry
invariant-loop-entry l = ascend_from 0 (map entry_seen l.entries) ≡ ascend_from l.least (map entry_seen (drop l.entry-index l.entries))
