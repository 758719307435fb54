use Rattle.std.proofs.Common.{◌∙◌, ap, sym}
use Rattle.std.specs.Option.{option_copied}
use Rattle.resource_book.specs.Names.{NamesView, index_in}
use Rattle.resource_book.proofs.NameLaws.{seen_index}
use Rattle.resource_book.proofs.names.Names.get.Goals as goal

pub returns-in-Some : goal.returns-in-Some
returns-in-Some c = ap option_copied (sym c.in-Some.is) ∙ c.get.ensures.value ∙ seen_index c.args.name.now c.self.inside.indices.entries ∙ ap (λ (v : NamesView). index_in v.entries c.args.name.now) c.self.view_is

pub returns-in-None : goal.returns-in-None
returns-in-None c = ap option_copied (sym c.in-None.is) ∙ c.get.ensures.value ∙ seen_index c.args.name.now c.self.inside.indices.entries ∙ ap (λ (v : NamesView). index_in v.entries c.args.name.now) c.self.view_is
