use Rattle.std.proofs.Common.{◌<◌, List, [], ◌∷◌, ◌++◌, length, sym, ap, subst, ◌∙◌}
use Rattle.frame_record.specs.declared.frame.Outcome.{Outcome}
use Rattle.render_core.specs.Outcomes.{has_ended}
use Rattle.render_core.specs.Counted.{outcomes_in}
use Rattle.render_core.proofs.Counts.{added}
use Rattle.render_core.proofs.outcomes.Outcomes.add.Goals as goal

pub returns-clause-added : goal.returns-clause-added
returns-clause-added c few =
    let view = c.self.view_is in
    let shown = c.self.inside.shown in
    let end = c.self.inside.end in
    (λ i. outcomes_in (c.shown_with-self-inside.ensures i) (c.end_with-self-inside.ensures i))
    ∙ added shown end c.args.outcome (c.requires ∙ ap has_ended (sym view)) (subst (λ (xs : List Outcome). length xs < 18446744073709551615) (sym view) few)
    ∙ ap (λ xs. xs ++ c.args.outcome ∷ []) view
