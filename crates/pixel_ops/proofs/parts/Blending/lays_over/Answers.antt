use Rattle.std.proofs.Common.{sym, ◌∙◌}
use Rattle.pixel_ops.proofs.Laid.{lays}
use Rattle.pixel_ops.proofs.parts.Blending.lays_over.Goals as goal

pub returns : goal.returns
returns c state t b =
    let s = c.args.self.now in
    lays state (sym b.mask ∙ s.over_mask t) (sym b.blended ∙ s.over_blended t) (sym b.source ∙ s.over_source t) (sym b.destination ∙ s.over_destination t) (sym b.equation ∙ s.over_equation t)
    (sym b.alpha_source ∙ s.over_alpha_source t) (sym b.alpha_destination ∙ s.over_alpha_destination t) (sym b.alpha_equation ∙ s.over_alpha_equation t)
