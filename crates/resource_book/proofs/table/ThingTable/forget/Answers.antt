use Rattle.std.proofs.Common.{◌<◌, ◌-◌, refl, ap, subst, ℕ}
use Rattle.gfx_model.specs.Resources.{Thing, with_references}
use Rattle.resource_book.specs.Seen.{row_seen}
use Rattle.resource_book.specs.Tables.{TableView}
use Rattle.resource_book.proofs.TableLaws.{within, thing_at, rows_changed, bare_rows, named_row, table_rows}
use Rattle.resource_book.proofs.table.ThingTable.forget.Goals as goal

pub forget_one-requires : goal.forget_one-requires
forget_one-requires c = subst (λ (n : ℕ). 1 < n) (ap (λ (t : Thing). t.references) (thing_at c.self.inside.rows.items c.args.self.now.things c.args.number c.index_mut.result.now (row_seen c.index_mut.result.now) (ap (λ (t : TableView). t.things) c.self.view_is) c.requires.within c.index_mut.ensures.value)) (c.requires.some (row_seen c.index_mut.result.now))

pub invariant_of-self : goal.invariant_of-self
invariant_of-self c =
    let f = with_references (λ n. n - 1) in
    let lt = within c.self.inside.rows.items c.args.self.now.things c.args.number (ap (λ (t : TableView). t.things) c.self.view_is) c.requires.within in
    let named = named_row f c.self.inside.names.entries c.self.inside.rows.items c.args.number c.index_mut.result.now c.forget_one.new.row (λ t. refl) (λ t. refl) (λ t. refl) c.self.invariant.named lt c.index_mut.ensures.value c.forget_one.ensures in
    table_rows f c.self.inside.numbers.items c.self.inside.names.entries c.self.inside.names.entries c.self.inside.texels c.self.inside.rows.items c.args.number c.index_mut.result.now c.forget_one.new.row (λ t. refl) (λ t. refl) c.self.invariant lt c.index_mut.ensures.value c.forget_one.ensures named

pub returns-clause-things : goal.returns-clause-things
returns-clause-things c d = rows_changed (with_references (λ n. n - 1)) c.self.inside.rows.items c.args.self.now.things c.args.number c.index_mut.result.now c.forget_one.new.row d (ap (λ (t : TableView). t.things) c.self.view_is) c.requires.within c.index_mut.ensures.value c.forget_one.ensures

pub returns-clause-bare : goal.returns-clause-bare
returns-clause-bare c = bare_rows _ _ refl
