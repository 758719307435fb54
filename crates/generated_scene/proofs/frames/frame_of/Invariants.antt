use Rattle.std.proofs.Common.{◌≡◌, map}
use Rattle.std.specs.List.{range_with_len}
use Rattle.scene_model.specs.Generated.{block_of}
use Rattle.scene_text.specs.Seen.{block_seen}
use Rattle.generated_scene.proofs.frames.frame_of.Given as goal

abbrev pub invariant-loop-encoder : goal.invariant-loop-encoder
invariant-loop-encoder l = map block_seen l.blocks.items ≡ map (block_of l.frame) (range_with_len 0 l.encoder)
