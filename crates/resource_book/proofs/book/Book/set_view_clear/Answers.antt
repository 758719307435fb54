use Rattle.std.proofs.Common.{refl}
use Rattle.gfx_model.specs.Resources.{effect, set_view_clear}
use Rattle.resource_book.specs.Shelves.{resources_of}
use Rattle.resource_book.proofs.Changes.{view_answered}
use Rattle.resource_book.proofs.Kept.{views_kept}
use Rattle.resource_book.proofs.book.Book.set_view_clear.Goals as goal

pub invariant_of-self : goal.invariant_of-self
invariant_of-self c = views_kept c.self.inside c.set_clear.new.self c.self.invariant

pub returns : goal.returns
returns c =
    view_answered c.self.inside c.args.self.now c.self.view_is c.set_clear.result (set_view_clear c.args.view (record { flags = c.args.flags; color = c.args.color; depth = c.args.depth; stencil = c.args.stencil })) c.set_clear.new.self (effect (resources_of c.self.inside.shelf) (set_view_clear c.args.view (record { flags = c.args.flags; color = c.args.color; depth = c.args.depth; stencil = c.args.stencil }))).after.views c.facts.ensures.bare c.set_clear.ensures refl refl
