use Rattle.std.proofs.Common.{refl, ap}
use Rattle.gfx_model.specs.Resources.{with_death}
use Rattle.resource_book.specs.Tables.{TableView}
use Rattle.resource_book.proofs.TableLaws.{within, rows_changed, bare_rows, dead_row, table_rows}
use Rattle.resource_book.proofs.table.ThingTable.kill.Goals as goal

pub invariant_of-self : goal.invariant_of-self
invariant_of-self c =
    let seen = ap (λ (t : TableView). t.things) c.self.view_is in
    let lt = within c.self.inside.rows.items c.args.self.now.things c.args.number seen c.requires.within in
    let named = dead_row c.args.death c.self.inside.names.entries c.kill.new.names.entries c.self.inside.rows.items c.args.self.now.things c.args.number c.index_mut.result.now c.kill.new.row seen c.self.invariant.named lt c.index_mut.ensures.value c.kill.ensures.row c.requires.lives c.kill.ensures.names in
    table_rows (with_death c.args.death) c.self.inside.numbers.items c.self.inside.names.entries c.kill.new.names.entries c.self.inside.texels c.self.inside.rows.items c.args.number c.index_mut.result.now c.kill.new.row (λ t. refl) (λ t. refl) c.self.invariant lt c.index_mut.ensures.value c.kill.ensures.row named

pub returns-clause-things : goal.returns-clause-things
returns-clause-things c d = rows_changed (with_death c.args.death) c.self.inside.rows.items c.args.self.now.things c.args.number c.index_mut.result.now c.kill.new.row d (ap (λ (t : TableView). t.things) c.self.view_is) c.requires.within c.index_mut.ensures.value c.kill.ensures.row

pub returns-clause-bare : goal.returns-clause-bare
returns-clause-bare c = bare_rows _ _ refl
