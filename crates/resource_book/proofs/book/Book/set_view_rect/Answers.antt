use Rattle.std.proofs.Common.{refl}
use Rattle.fix_math.specs.Seen.{rect_seen}
use Rattle.gfx_model.specs.Resources.{effect, set_view_rect}
use Rattle.resource_book.specs.Shelves.{resources_of}
use Rattle.resource_book.proofs.Changes.{view_answered}
use Rattle.resource_book.proofs.Kept.{views_kept}
use Rattle.resource_book.proofs.book.Book.set_view_rect.Goals as goal

pub invariant_of-self : goal.invariant_of-self
invariant_of-self c = views_kept c.self.inside c.set_rect.new.self c.self.invariant

pub returns : goal.returns
returns c =
    view_answered c.self.inside c.args.self.now c.self.view_is c.set_rect.result (set_view_rect c.args.view (rect_seen c.args.rect)) c.set_rect.new.self (effect (resources_of c.self.inside.shelf) (set_view_rect c.args.view (rect_seen c.args.rect))).after.views c.facts.ensures.bare c.set_rect.ensures refl refl
