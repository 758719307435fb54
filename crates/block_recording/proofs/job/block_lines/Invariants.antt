use Rattle.std.proofs.Common.{◌≡◌, map, drop}
use Rattle.scene_model.specs.Fold.{lines_of}
use Rattle.scene_text.specs.Seen.{block_seen}
use Rattle.block_recording.proofs.job.block_lines.Given as goal

abbrev pub invariant-loop-block : goal.invariant-loop-block
invariant-loop-block l = lines_of l.encoder (map block_seen (drop l.block-index l.blocks)) ≡ lines_of l.encoder (map block_seen l.blocks)
