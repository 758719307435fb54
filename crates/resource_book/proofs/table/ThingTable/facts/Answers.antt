use Rattle.std.proofs.Common.{ap, subst}
use Rattle.std.specs.List.{AllByRecursion}
use Rattle.resource_book.specs.Tables.{TableView, StandApart, IsOfKind}
use Rattle.resource_book.proofs.TableLaws.{bare_rows}
use Rattle.resource_book.proofs.table.ThingTable.facts.Goals as goal

pub returns-clause-bare : goal.returns-clause-bare
returns-clause-bare c = bare_rows c.self.inside.rows.items c.args.self.now.things (ap (λ (t : TableView). t.things) c.self.view_is)

pub returns-clause-apart : goal.returns-clause-apart
returns-clause-apart c = subst StandApart (ap (λ (t : TableView). t.things) c.self.view_is) c.self.invariant.apart

pub returns-clause-kinds : goal.returns-clause-kinds
returns-clause-kinds c = subst (AllByRecursion IsOfKind) (ap (λ (t : TableView). t.things) c.self.view_is) c.self.invariant.kinds
