use Rattle.std.proofs.Common.{rules, refl, ap, sym, subst, arith, ℕ, List, []}
use Rattle.std.specs.List.{AllByRecursion}
use Rattle.resource_book.specs.declared.rows.Row.{Row}
use Rattle.resource_book.specs.Seen.{rows_seen}
use Rattle.resource_book.specs.Tables.{IsPlaced, IsNamed, StandApart, IsOfKind, texels_of}
use Rattle.resource_book.proofs.Numbered.{numbered_none}
use Rattle.resource_book.proofs.table.ThingTable.new.Goals as goal

pub invariant_of-result : goal.invariant_of-result
invariant_of-result c = record {
  placed = subst (λ (rows : List Row). IsPlaced c.in_ok-numbers.numbers.items (rows_seen rows)) (sym c.new.ensures.items)
      (numbered_none c.in_ok-numbers.numbers.items 3776 [] (c.in_ok-numbers.ensures.items_if_clones_equal (λ y k. search rules)) refl);
  apart = subst (λ (rows : List Row). StandApart (rows_seen rows)) (sym c.new.ensures.items) (record { fits = tt; once = λ k i lt. omega arith });
  kinds = subst (λ (rows : List Row). AllByRecursion IsOfKind (rows_seen rows)) (sym c.new.ensures.items) tt;
  named = subst (λ (names : List (List ℕ × ℕ)). IsNamed names (rows_seen c.new.result.items)) (sym c.new-2.ensures) (subst (λ (rows : List Row). IsNamed [] (rows_seen rows)) (sym c.new.ensures.items) (record { finds = λ name. refl; once = λ name. omega arith }));
  sum = ap (λ (rows : List Row). texels_of (rows_seen rows)) (sym c.new.ensures.items);
  most = omega arith;
}
