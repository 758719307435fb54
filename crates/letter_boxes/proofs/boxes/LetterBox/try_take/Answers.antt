use Rattle.std.proofs.Common.{rules, ap, ◌∙◌, Some, None}
use Rattle.letter_boxes.proofs.MailKeeps.{enters_keep, grabs_keep, clears_keep, filled, held_slot}
use Rattle.letter_boxes.proofs.boxes.LetterBox.try_take.Goals as goal

pub load_new_seat-seat-requires : goal.load_new_seat-seat-requires
load_new_seat-seat-requires g c = (search rules, enters_keep _ _)

pub compare_exchange-requires : goal.compare_exchange-requires
compare_exchange-requires g c = let new = c.load_new_seat-seat.ensures.2 in (search rules, search rules, grabs_keep _ _ _ _ (ap (λ m. m.0.holds) new) (ap (λ m. m.1) new))

pub exchange-requires : goal.exchange-requires
exchange-requires g c = let has = c.compare_exchange.ensures.2.0 c.if-compare_exchange-ne2.false in (search rules, (Some has.0, held_slot _ (Some has.0) (ap (λ m. m.1) has.1)))

pub store-requires : goal.store-requires
store-requires g c =
    let has = c.compare_exchange.ensures.2.0 c.if-compare_exchange-ne2.false in
    let put = c.exchange.ensures.3 in (
      search rules,
      search rules,
      clears_keep _ _ _ _ (ap (λ m. m.0.holds) put ∙ ap (λ m. m.0.holds) has.1) (filled _ _ (Some has.0) None (ap (λ m. m.1) has.1) (ap (λ m. m.1) put)),
    )
