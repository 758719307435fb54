use Rattle.std.proofs.Common.{rules, ℕ, length, subst, arith, ap, ◌∙◌, sym, refl}
use Rattle.gfx_model.specs.Words.{place_of_handle}
use Rattle.schedule_model.specs.Machine.{place_at}
use Rattle.hold_table.specs.Words.{IsUpTo}
use Rattle.hold_table.specs.Views.{SeatView}
use Rattle.hold_table.proofs.Steps.{asks_keep}
use Rattle.hold_table.proofs.PlaceLaws.{word-stays_usable, word-stays_refused, told_of}
use Rattle.hold_table.proofs.table.HoldTable.name.Goals as goal

pub load-word-requires : goal.load-word-requires
load-word-requires c = (search rules, search rules, asks_keep _ _ _ _ _ (place_of_handle c.args.h) (omega (arith, c.place-place.ensures.same)) c.args.enc.now.is_recorder)

pub invariant_of-enc : goal.invariant_of-enc
invariant_of-enc c = let told = (c.load-word.ensures.2 (place_of_handle c.args.h) (omega (arith, c.place-place.ensures.same))).0 in record {
  frame_is = c.args.enc.now.frame_is ∙ sym (ap (λ m. m.0.frame) told);
  many = ap (λ m. length m.0.places) told ∙ c.args.enc.now.many;
  placed = subst (λ (v : SeatView). (q : ℕ) → IsUpTo v.greatest (place_at v.places q)) (ap (λ m. m.0) (sym told)) c.args.enc.now.placed;
  greatest_most = omega (arith, ap (λ m. m.0.greatest) told, c.args.enc.now.greatest_most);
  is_recorder = ap (λ m. m.0.role) told ∙ c.args.enc.now.is_recorder;
  no_slot = ap (λ m. m.1) told ∙ c.args.enc.now.no_slot;
}

pub returns-then-is_usable_in-clause-asked : goal.returns-then-is_usable_in-clause-asked
returns-then-is_usable_in-clause-asked c = let told = (c.load-word.ensures.2 (place_of_handle c.args.h) (omega (arith, c.place-place.ensures.same))) in
    (c.load-word.result, (ap (λ m. m.0) told.0, told.1), told_of c.args.enc.now.frame c.args.enc.now.seat.me.0.frame c.load-word.result c.serial.result c.args.h.serial _ _ c.is_usable_in.ensures c.args.enc.now.frame_is c.serial.ensures c.if-is_usable_in.true)

pub returns-then-is_usable_in-clause-was_not : goal.returns-then-is_usable_in-clause-was_not
returns-then-is_usable_in-clause-was_not c older unusable = let told = (c.load-word.ensures.2 (place_of_handle c.args.h) (omega (arith, c.place-place.ensures.same))) in
    sym (word-stays_refused c.args.enc.now.seat.me.0 (place_of_handle c.args.h) c.load-word.result c.args.h.serial told.1 older unusable) ∙ told_of c.args.enc.now.frame c.args.enc.now.seat.me.0.frame c.load-word.result c.serial.result c.args.h.serial _ _ c.is_usable_in.ensures c.args.enc.now.frame_is c.serial.ensures c.if-is_usable_in.true

pub returns-else-is_usable_in-clause-asked : goal.returns-else-is_usable_in-clause-asked
returns-else-is_usable_in-clause-asked c = let told = (c.load-word.ensures.2 (place_of_handle c.args.h) (omega (arith, c.place-place.ensures.same))) in
    (c.load-word.result, (ap (λ m. m.0) told.0, told.1), (told_of c.args.enc.now.frame c.args.enc.now.seat.me.0.frame c.load-word.result c.serial.result c.args.h.serial _ _ c.is_usable_in.ensures c.args.enc.now.frame_is c.serial.ensures c.if-is_usable_in.false, refl))

pub returns-else-is_usable_in-clause-was_usable : goal.returns-else-is_usable_in-clause-was_usable
returns-else-is_usable_in-clause-was_usable c usable = let told = (c.load-word.ensures.2 (place_of_handle c.args.h) (omega (arith, c.place-place.ensures.same))) in
    sym (told_of c.args.enc.now.frame c.args.enc.now.seat.me.0.frame c.load-word.result c.serial.result c.args.h.serial _ _ c.is_usable_in.ensures c.args.enc.now.frame_is c.serial.ensures c.if-is_usable_in.false) ∙ word-stays_usable c.args.enc.now.seat.me.0 (place_of_handle c.args.h) c.load-word.result c.args.h.serial told.1 usable
