use Rattle.std.proofs.Common.{sym, subst}
use Rattle.gfx_model.specs.Resources.{is_at}
use Rattle.gfx_words.specs.Kinds.{kind_seen}
use Rattle.resource_book.proofs.Numbers.{number_found, IsNumber}
use Rattle.resource_book.proofs.table.ThingTable.number_at.Goals as goal

pub returns : goal.returns
returns c = subst (IsNumber (is_at (kind_seen c.args.kind) c.args.index) c.args.self.now.things) (sym c.first_at.ensures) (number_found (is_at (kind_seen c.args.kind) c.args.index) c.args.self.now.things)
