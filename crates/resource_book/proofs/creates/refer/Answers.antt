use Rattle.std.proofs.Common.{rules, ◌≡◌, ◌+◌, ap, ◌∙◌, sym, subst, Some, None}
use Rattle.gfx_model.specs.Resources.{Thing, first_refusal, uniform_refusals, on_thing, with_references}
use Rattle.gfx_words.specs.Kinds.{uniform_seen}
use Rattle.resource_laws.specs.Bare.{bare_of}
use Rattle.resource_book.specs.Shelves.{resources_of}
use Rattle.resource_book.proofs.creates.refer.Goals as goal

pub returns-clause-answer : goal.returns-clause-answer
returns-clause-answer c d =
    let e = c.row-row.ensures d in (
      subst (λ (t : Thing). first_refusal (uniform_refusals (resources_of c.args.shelf.now) (uniform_seen c.args.kind) (Some t)) ≡ None) e (search rules),
      ap (λ (t : Thing). t.handle) e,
      sym c.refer.ensures.bare ∙ ap bare_of (c.refer.ensures.after d ∙ ap (λ (t : Thing). on_thing (with_references (λ n. n + 1)) t.handle.serial (resources_of c.args.shelf.now)) (sym e)),
    )
