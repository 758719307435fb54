use Rattle.std.proofs.Common.{rules, ℕ, subst, ◌+◌, ◌*◌, arith, ap, ◌∙◌, sym, length, length-set}
use Rattle.gfx_model.specs.Words.{place_of_handle}
use Rattle.schedule_model.specs.Machine.{place_at, live}
use Rattle.hold_table.specs.Words.{IsUpTo}
use Rattle.hold_table.specs.Views.{SeatView}
use Rattle.hold_table.proofs.PlaceLaws.{up_to-set}
use Rattle.hold_table.proofs.Steps.{creates_keep}
use Rattle.hold_table.proofs.table.HoldTable.place_live.Goals as goal

pub store-requires : goal.store-requires
store-requires c = (search rules, search rules, creates_keep _ _ _ _ _ _ (place_of_handle c.args.h) c.args.h.serial (omega (arith, c.place-place.ensures.same)) (c.word-word.ensures ∙ ap (λ s. 1 + 4 * s) c.serial-serial.ensures) c.args.api.now.is_api c.requires.place c.requires.serial (omega (arith, c.serial-serial.ensures, c.serial-serial.type_inv)))

pub invariant_of-api : goal.invariant_of-api
invariant_of-api c = let told = c.store.ensures.2 (place_of_handle c.args.h) c.args.h.serial (omega (arith, c.place-place.ensures.same)) (c.word-word.ensures ∙ ap (λ s. 1 + 4 * s) c.serial-serial.ensures) in record {
  frame_is = c.args.api.now.frame_is ∙ sym (ap (λ m. m.0.frame) told);
  frame_most = c.args.api.now.frame_most;
  many = ap (λ m. length m.0.places) told ∙ length-set c.args.api.now.seat.me.0.places (place_of_handle c.args.h) (live c.args.h.serial) ∙ c.args.api.now.many;
  placed = subst (λ (v : SeatView). (q : ℕ) → IsUpTo v.greatest (place_at v.places q)) (ap (λ m. m.0) (sym told)) (up_to-set c.args.api.now.seat.me.0.greatest c.args.h.serial (place_of_handle c.args.h) (live c.args.h.serial) c.args.api.now.seat.me.0.places (omega arith) (omega arith) c.args.api.now.placed);
  greatest_most = omega (arith, ap (λ m. m.0.greatest) told, c.serial-serial.ensures, c.serial-serial.type_inv);
  is_api = ap (λ m. m.0.role) told ∙ c.args.api.now.is_api;
  all_learnt = ap (λ m. m.0.shows) told ∙ c.args.api.now.all_learnt;
  no_slot = ap (λ m. m.1) told ∙ c.args.api.now.no_slot;
}
