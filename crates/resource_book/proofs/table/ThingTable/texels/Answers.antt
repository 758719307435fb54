use Rattle.std.proofs.Common.{ap, ◌∙◌}
use Rattle.resource_book.specs.Tables.{TableView, texels_of}
use Rattle.resource_book.proofs.table.ThingTable.texels.Goals as goal

pub returns : goal.returns
returns c = c.self.invariant.sum ∙ ap (λ (t : TableView). texels_of t.things) c.self.view_is
