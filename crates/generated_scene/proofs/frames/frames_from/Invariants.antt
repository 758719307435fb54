use Rattle.std.proofs.Common.{◌≡◌, map}
use Rattle.std.specs.List.{range_with_len}
use Rattle.scene_model.specs.Generated.{generated_frame}
use Rattle.scene_text.specs.Seen.{frame_seen}
use Rattle.generated_scene.proofs.frames.frames_from.Given as goal

abbrev pub invariant-loop-step : goal.invariant-loop-step
invariant-loop-step l = map frame_seen l.frames.items ≡ map generated_frame (range_with_len l.fn.from l.step)
