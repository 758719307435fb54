use Rattle.std.proofs.Common.{rules, refl, sym, subst, arith, List, ℕ, Option, vec_len, take, ◌+◌}
use Rattle.std.proofs.lemmas.List.{take_all}
use Rattle.gfx_model.specs.Words.{place_of_handle}
use Rattle.resource_book.specs.declared.rows.Row.{Row}
use Rattle.resource_book.specs.Seen.{rows_seen}
use Rattle.resource_book.specs.Tables.{IsPlaced}
use Rattle.resource_book.proofs.Numbered.{numbered_none, numbered_next}
use Rattle.resource_book.proofs.table.number_all.Goals as goal

pub loop-i-init : goal.loop-i-init
loop-i-init c = numbered_none c.fill.new.self.items (vec_len c.args.numbers.now) c.args.rows.now (c.fill.ensures.items (λ y k. search rules)) (search rules)

pub put_number-requires : goal.put_number-requires
put_number-requires c = c.loop-i.invariant.many

pub loop-i-preserved : goal.loop-i-preserved
loop-i-preserved c =
    subst (λ (places : List (Option ℕ)). IsPlaced places (rows_seen (take (c.loop-i.i + 1) c.args.rows.now))) (sym c.put_number.ensures)
    (numbered_next c.args.rows.now c.loop-i.i c.index-rows-i.result c.loop-i.numbers.items (place_of_handle c.index-rows-i.result.handle) c.loop-i-test.true c.index-rows-i.is c.requires.apart refl c.loop-i.invariant)

pub returns : goal.returns
returns c = subst (λ (rows : List Row). IsPlaced c.loop-i.numbers.items (rows_seen rows)) (take_all c.loop-i.i c.args.rows.now (omega (arith, c.loop-i-test.false))) c.loop-i.invariant
