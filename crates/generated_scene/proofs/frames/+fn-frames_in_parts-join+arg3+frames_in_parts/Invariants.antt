use Rattle.generated_scene.proofs.frames.+fn-frames_in_parts-join+arg3+frames_in_parts.Given as goal

abbrev pub decreases-frames_in_parts : goal.decreases-frames_in_parts
decreases-frames_in_parts g l = l.parts

abbrev pub decreases-join+arg3 : goal.decreases-join+arg3
decreases-join+arg3 g l = l.more
