use Rattle.std.proofs.Common.{◌∙◌, ap, None, if◌then◌else◌, bytes_eq}
use Rattle.resource_book.specs.Names.{NamesView, index_in}
use Rattle.resource_book.proofs.NameLaws.{updated}
use Rattle.resource_book.proofs.names.Names.remove.Goals as goal

pub returns : goal.returns
returns c other =
    updated c.args.name.now None c.self.inside.indices.entries c.swap_remove.new.self.entries c.swap_remove.ensures.updates.1 c.swap_remove.ensures.updates.3 other
    ∙ ap (λ (v : NamesView). if bytes_eq c.args.name.now other then None else index_in v.entries other) c.self.view_is
