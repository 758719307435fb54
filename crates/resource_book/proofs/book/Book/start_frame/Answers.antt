use Rattle.std.proofs.Common.{◌≤◌, ap, sym, subst, ◌∙◌}
use Rattle.resource_book.specs.Written.{BookView}
use Rattle.resource_book.proofs.Kept.{started_kept}
use Rattle.resource_book.proofs.book.Book.start_frame.Goals as goal

pub invariant_of-self : goal.invariant_of-self
invariant_of-self c =
    started_kept c.self.inside c.start_frame.new.self c.args.frame c.self.invariant (subst (λ (v : BookView). v.resources.frame ≤ c.args.frame) (sym c.self.view_is) c.requires.later) c.requires.most
    (ap (λ (v : BookView). v.post) c.self.view_is ∙ c.requires.taken) c.start_frame.ensures.after c.start_frame.ensures.limits
