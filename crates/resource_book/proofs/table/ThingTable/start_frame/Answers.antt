use Rattle.std.proofs.Common.{ap, sym, subst, ◌∙◌, filter, List, length, arith}
use Rattle.std.proofs.lemmas.List.{length-map}
use Rattle.std.specs.List.{AllByRecursion}
use Rattle.gfx_model.specs.Resources.{is_kept_thing}
use Rattle.resource_book.specs.declared.rows.Row.{Row}
use Rattle.resource_book.specs.Seen.{row_seen, rows_seen}
use Rattle.resource_book.specs.Tables.{TableView, StandApart, IsOfKind, IsNamed, IsPlaced, texels_of}
use Rattle.resource_book.proofs.Named.{named_started}
use Rattle.resource_book.proofs.Starts.{apart_kept, all_kept, length_kept}
use Rattle.resource_book.proofs.table.ThingTable.start_frame.Goals as goal

pub number_all-requires-clause-apart : goal.number_all-requires-clause-apart
number_all-requires-clause-apart c =
    subst StandApart (sym (ap rows_seen c.deref.ensures.value ∙ c.keep_rows.ensures ∙ ap (λ (t : TableView). filter (is_kept_thing c.args.latency c.args.frame) t.things) c.self.view_is))
    (apart_kept (is_kept_thing c.args.latency c.args.frame) c.args.self.now.things (subst StandApart (ap (λ (t : TableView). t.things) c.self.view_is) c.self.invariant.apart))

pub texels_in-texels-requires : goal.texels_in-texels-requires
texels_in-texels-requires c =
    let same = ap length (c.keep_rows.ensures ∙ ap (λ (t : TableView). filter (is_kept_thing c.args.latency c.args.frame) t.things) c.self.view_is) in
    let less = length_kept (is_kept_thing c.args.latency c.args.frame) c.args.self.now.things in
    let seen = length-map c.keep_rows.new.rows.items row_seen in
    let rows = ap length c.deref-2.ensures.value in
    let few = c.requires in
    omega (arith, same, less, seen, rows, few)

pub invariant_of-self : goal.invariant_of-self
invariant_of-self c = record {
  placed = subst (λ (rows : List Row). IsPlaced c.number_all.new.numbers.items (rows_seen rows)) c.deref.ensures.value c.number_all.ensures;
  apart = subst StandApart (sym c.keep_rows.ensures) (apart_kept (is_kept_thing c.args.latency c.args.frame) (rows_seen c.self.inside.rows.items) c.self.invariant.apart);
  kinds = subst (AllByRecursion IsOfKind) (sym c.keep_rows.ensures) (all_kept IsOfKind (is_kept_thing c.args.latency c.args.frame) (rows_seen c.self.inside.rows.items) c.self.invariant.kinds);
  named = subst (IsNamed c.self.inside.names.entries) (sym c.keep_rows.ensures) (named_started c.args.latency c.args.frame c.self.inside.names.entries (rows_seen c.self.inside.rows.items) c.self.invariant.named);
  sum = c.texels_in-texels.ensures.sum ∙ ap (λ rows. texels_of (rows_seen rows)) c.deref-2.ensures.value;
  most =
      let a = c.texels_in-texels.ensures.most in
      let b = length-map c.keep_rows.new.rows.items row_seen in
      let d = ap length c.deref-2.ensures.value in
      omega (arith, a, b, d);
}
