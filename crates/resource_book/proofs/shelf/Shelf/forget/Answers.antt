use Rattle.std.proofs.Common.{◌-◌, ◌∙◌, sym}
use Rattle.gfx_model.specs.Resources.{with_references}
use Rattle.resource_book.specs.Shelves.{resources_of}
use Rattle.resource_book.proofs.ThingLaws.{change_at}
use Rattle.resource_book.proofs.shelf.Shelf.forget.Goals as goal

pub returns-clause-after : goal.returns-clause-after
returns-clause-after c d = λ j. record (resources_of c.args.self.now) {
  things = (c.forget.ensures.things d ∙ sym (change_at (with_references (λ n. n - 1)) 0 c.args.self.now.table.things c.args.number d c.requires.lawful.rises c.requires.within)) j;
}
