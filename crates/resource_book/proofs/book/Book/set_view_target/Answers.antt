use Rattle.std.proofs.Common.{◌≡◌, None, refl, ◌∙◌, sym, subst}
use Rattle.gfx_model.specs.Resources.{effect, first_refusal, set_view_target}
use Rattle.resource_book.specs.Shelves.{resources_of}
use Rattle.resource_book.specs.Targets.{target_refusals}
use Rattle.resource_book.specs.Written.{BookView}
use Rattle.resource_book.proofs.Changes.{view_answered}
use Rattle.resource_book.proofs.Kept.{views_kept}
use Rattle.resource_book.proofs.TargetCalls.{target_no_view, target_refused, target_answered}
use Rattle.resource_book.proofs.book.Book.set_view_target.Goals as goal

pub invariant_of-self : goal.invariant_of-self
invariant_of-self c = views_kept c.self.inside c.set_target.new.self c.self.invariant

pub returns-then-is_no_view : goal.returns-then-is_no_view
returns-then-is_no_view c = (target_no_view c.args.self.now.resources c.args.view c.args.target (sym c.is_no_view.ensures ∙ c.if-is_no_view.true), refl)

pub returns-in-Ok : goal.returns-in-Ok
returns-in-Ok c =
    let passes = subst (λ (v : BookView). first_refusal (target_refusals v.resources c.args.target) ≡ None) (sym c.self.view_is) c.in-Ok.ensures in
    let changed = (effect (resources_of c.self.inside.shelf) (set_view_target c.args.view c.args.target)).after.views in
    view_answered c.self.inside c.args.self.now c.self.view_is c.set_target.result (set_view_target c.args.view c.args.target) c.set_target.new.self changed c.facts.ensures.bare
    (target_answered c.set_target.result (resources_of c.self.inside.shelf) c.args.view c.args.target c.set_target.new.self changed passes c.set_target.ensures) refl refl

pub returns-in-Err : goal.returns-in-Err
returns-in-Err c = (target_refused c.args.self.now.resources c.args.view c.args.target c.in-Err.r (sym c.is_no_view.ensures ∙ c.if-is_no_view.false) c.in-Err.ensures, refl)
