use Rattle.std.proofs.Common.{refl}
use Rattle.gfx_model.specs.Resources.{effect, reset_view}
use Rattle.resource_book.specs.Shelves.{resources_of}
use Rattle.resource_book.proofs.Changes.{view_answered}
use Rattle.resource_book.proofs.Kept.{views_kept}
use Rattle.resource_book.proofs.book.Book.reset_view.Goals as goal

pub invariant_of-self : goal.invariant_of-self
invariant_of-self c = views_kept c.self.inside c.reset_view.new.self c.self.invariant

pub returns : goal.returns
returns c =
    view_answered c.self.inside c.args.self.now c.self.view_is c.reset_view.result (reset_view c.args.view) c.reset_view.new.self (effect (resources_of c.self.inside.shelf) (reset_view c.args.view)).after.views c.facts.ensures.bare c.reset_view.ensures refl refl
