-- Blame by index is the definition's.
use Rattle.std.proofs.Common.{◌∙◌, ap}
use Rattle.trace_laws.specs.ByIndex.{begun_in, deeds_in, history_in}
use Rattle.trace_laws.specs.History.{pixel_at}
use Rattle.frame_blame.specs.Blame.{blame_of}
use Rattle.frame_blame.specs.Laws.{BlameLaw}

pub blame-law : BlameLaw
blame-law h w f content is x y =
    ap (λ b. blame_of (pixel_at b x y) (history_in x y 0 (begun_in h f) (deeds_in f))) is.back ∙ ap (blame_of (pixel_at w.back x y)) (is.history x y)
