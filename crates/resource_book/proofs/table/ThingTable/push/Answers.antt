use Rattle.std.proofs.Common.{rules, ◌∙◌, refl, ap, length, arith}
use Rattle.std.proofs.lemmas.List.{length-append, length-map}
use Rattle.resource_book.specs.Seen.{row_seen}
use Rattle.resource_book.specs.Tables.{TableView}
use Rattle.resource_book.proofs.TableLaws.{bare_rows, placed_row, apart_row, kinds_row, named_rows, sum_more, rows_few}
use Rattle.resource_book.proofs.table.ThingTable.push.Goals as goal

pub more_texels-texels-requires : goal.more_texels-texels-requires
more_texels-texels-requires c =
    let few = rows_few c.self.inside.rows.items c.args.self.now.things (ap (λ (t : TableView). t.things) c.self.view_is) c.requires.few in
    let same = length-map c.self.inside.rows.items row_seen in
    let most = c.self.invariant.most in
    omega (arith, few, same, most)

pub invariant_of-self : goal.invariant_of-self
invariant_of-self c = record {
  placed = placed_row c.self.inside.numbers.items c.self.inside.rows.items c.push_reserved.new.self.items c.args.self.now.things c.args.row c.place-place.result c.len.result c.self.invariant.placed
      (ap (λ (t : TableView). t.things) c.self.view_is) c.requires.below c.requires.free c.place-place.ensures.same (search rules) c.push_reserved.ensures.items;
  apart = apart_row c.self.inside.rows.items c.push_reserved.new.self.items c.args.self.now.things c.args.row (ap (λ (t : TableView). t.things) c.self.view_is) c.self.invariant.apart c.requires.below c.requires.free c.push_reserved.ensures.items;
  kinds = kinds_row c.self.inside.rows.items c.push_reserved.new.self.items c.args.row c.self.invariant.kinds c.requires.kind c.push_reserved.ensures.items;
  named = named_rows c.self.inside.names.entries c.note_name.new.names.entries c.self.inside.rows.items c.push_reserved.new.self.items c.args.self.now.things c.args.row c.args.name c.index-index.result (ap (λ (t : TableView). t.things) c.self.view_is) c.self.invariant.named c.requires.lives c.requires.name c.requires.unused c.index-index.ensures.same c.note_name.ensures c.push_reserved.ensures.items;
  sum = c.more_texels-texels.ensures.same ∙ sum_more c.self.inside.texels c.self.inside.rows.items c.args.row c.push_reserved.new.self.items c.self.invariant.sum c.push_reserved.ensures.items;
  most =
      let most = c.more_texels-texels.ensures.most in
      let old = c.self.invariant.most in
      let same = length-map c.self.inside.rows.items row_seen in
      let new = length-map c.push_reserved.new.self.items row_seen in
      let long = ap length c.push_reserved.ensures.items ∙ length-append c.self.inside.rows.items _ in
      omega (arith, most, old, same, new, long);
}

pub returns-clause-bare : goal.returns-clause-bare
returns-clause-bare c = bare_rows _ _ refl
