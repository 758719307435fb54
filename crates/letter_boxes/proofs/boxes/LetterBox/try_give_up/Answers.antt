use Rattle.std.proofs.Common.{rules, ap, ◌∙◌, sym, Some, None}
use Rattle.letter_boxes.proofs.MailKeeps.{enters_keep, claims_keep, posts_keep, filled, word_given_up}
use Rattle.letter_boxes.proofs.boxes.LetterBox.try_give_up.Goals as goal

pub load_new_seat-seat-requires : goal.load_new_seat-seat-requires
load_new_seat-seat-requires g c = (search rules, enters_keep _ _)

pub compare_exchange-requires : goal.compare_exchange-requires
compare_exchange-requires g c = let new = c.load_new_seat-seat.ensures.2 in (search rules, search rules, claims_keep _ _ _ _ (ap (λ m. m.0.holds) new) (ap (λ m. m.1) new))

pub store-requires : goal.store-requires
store-requires g c =
    let new = c.load_new_seat-seat.ensures.2 in
    let has = c.compare_exchange.ensures.2.0 c.if-compare_exchange-ne0.false in
    let put = c.exchange.ensures.3 in
    let letter = c.given_up-letter.result in (
      search rules,
      search rules,
      posts_keep _ _ _ _ _ letter (word_given_up letter c.given_up-letter.ensures.none) (ap (λ m. m.0.holds) put ∙ ap (λ m. m.0.holds) has) (filled _ _ None (Some letter) (ap (λ m. m.1) has) (ap (λ m. m.1) put))
          (c.given_up-letter.ensures.table ∙ c.requires.table ∙ sym (ap (λ m. m.0.of) put ∙ ap (λ m. m.0.of) has ∙ ap (λ m. m.0.of) new)),
    )
