use Rattle.std.proofs.Common.{◌∙◌, ap, Some, if◌then◌else◌, bytes_eq}
use Rattle.resource_book.specs.Names.{NamesView, index_in}
use Rattle.resource_book.proofs.NameLaws.{updated}
use Rattle.resource_book.proofs.names.Names.insert.Goals as goal

pub returns : goal.returns
returns c other =
    updated c.args.name.items (Some c.args.index) c.self.inside.indices.entries c.insert.new.self.entries c.in-Ok.ensures.updates.1 c.in-Ok.ensures.updates.3 other
    ∙ ap (λ (v : NamesView). if bytes_eq c.args.name.items other then Some c.args.index else index_in v.entries other) c.self.view_is
