use Rattle.std.proofs.Common.{◌≡◌, ◌+◌, [], ◌∷◌, ◌++◌, map, ap, sym, refl, ◌∙◌, arith}
use Rattle.std.proofs.lemmas.List.{map-append}
use Rattle.std.proofs.lemmas.List.FromFn.{map-range_with_len_more}
use Rattle.scene_model.specs.Generated.{generated_frame}
use Rattle.scene_text.specs.Seen.{frame_seen}
use Rattle.generated_scene.proofs.frames.frames_from.Goals as goal

pub loop-step-preserved : goal.loop-step-preserved
loop-step-preserved c =
    ap (map frame_seen) c.in_ok-push.ensures.items
    ∙ map-append frame_seen c.loop-step.frames.items (c.in_ok-made.made ∷ [])
    ∙ (λ i. c.loop-step.invariant i ++ c.in_ok-made.ensures i ∷ [])
    ∙ sym (map-range_with_len_more generated_frame c.args.from c.loop-step.step (c.args.from + c.loop-step.step) refl)
