use Rattle.std.proofs.Common.{◌∙◌, ap, sym, subst, List}
use Rattle.std.specs.List.{find}
use Rattle.gfx_model.specs.Words.{uniform_kind}
use Rattle.gfx_model.specs.Resources.{Thing, is_at}
use Rattle.resource_book.specs.Seen.{rows_seen}
use Rattle.resource_book.specs.Tables.{TableView, number_of, is_named}
use Rattle.resource_book.proofs.Numbers.{IsNumber}
use Rattle.resource_book.proofs.Named.{named_number, named_none}
use Rattle.resource_book.proofs.table.ThingTable.named.Goals as goal

pub returns-in-None : goal.returns-in-None
returns-in-None c =
    ap (λ (t : TableView). find (is_named c.args.name.now) t.things) (sym c.self.view_is)
    ∙ named_none c.args.name.now (rows_seen c.self.inside.rows.items) c.self.inside.names.entries c.self.invariant.named (sym c.in-None.is ∙ c.get.ensures)

pub returns-in-Some : goal.returns-in-Some
returns-in-Some c =
    subst (IsNumber (is_named c.args.name.now) c.args.self.now.things) (sym c.first_at.ensures)
    (subst (λ (ts : List Thing). IsNumber (is_named c.args.name.now) ts (number_of (is_at uniform_kind c.in-Some.index) ts)) (ap (λ (t : TableView). t.things) c.self.view_is)
    (named_number c.args.name.now (rows_seen c.self.inside.rows.items) c.self.invariant.apart c.self.invariant.kinds c.self.inside.names.entries c.in-Some.index c.self.invariant.named (sym c.in-Some.is ∙ c.get.ensures)).1)

pub first_at-requires : goal.first_at-requires
first_at-requires c = (named_number c.args.name.now (rows_seen c.self.inside.rows.items) c.self.invariant.apart c.self.invariant.kinds c.self.inside.names.entries c.in-Some.index c.self.invariant.named (sym c.in-Some.is ∙ c.get.ensures)).0
