-- What a line on an encoder drops, by the definition's fold.
use Rattle.std.proofs.Common.{◌≡◌, ℕ, ◌+◌, ap, sym, ◌∙◌, arith}
use Rattle.scene_model.specs.Fold.{Recording}
use Rattle.block_recording.specs.Lines.{counted}
use Rattle.dropped_lines.specs.Reasons.{encoder_reason}
use Rattle.dropped_lines.specs.Laws.{StepLaw, dropped_for}
use Rattle.play_drops.specs.Laws.{EncoderLaw}

same_more : (d m n : ℕ) → d + m ≡ d + n → m ≡ n
same_more d m n e = omega (arith, e)

pub encoder-law : StepLaw → EncoderLaw
encoder-law law names line old new dropped done p d stands =
    same_more d dropped (dropped_for (encoder_reason p (counted old.recorder d) line))
    (sym (ap (λ (r : Recording). r.dropped) (done.after p d stands)) ∙ law.encoder p (counted old.recorder d) line)
