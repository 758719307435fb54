use Rattle.std.proofs.Common.{◌∙◌}
use Rattle.resource_book.proofs.Overs.{keeps}
use Rattle.resource_book.proofs.shelf.Shelf.keeps_all.Goals as goal

pub returns : goal.returns
returns c = c.all_keep.ensures ∙ keeps c.args.self.now c.requires.limits c.requires.lawful c.args.frame
