use Rattle.std.proofs.Common.{rules, ℕ, ◌∙◌, length, subst, sym, ap, arith}
use Rattle.std.proofs.lemmas.List.{length-replicate}
use Rattle.schedule_model.specs.Machine.{Place, free, place_at}
use Rattle.hold_table.specs.Words.{IsUpTo}
use Rattle.hold_table.specs.Views.{SeatView}
use Rattle.hold_table.proofs.Steps.{opens, none_placed}
use Rattle.hold_table.proofs.table.HoldTable.new.Goals as goal

pub of_words-requires : goal.of_words-requires
of_words-requires c = opens _ _ c.requires (search rules)

pub invariant_of-result-2 : goal.invariant_of-result-2
invariant_of-result-2 c = let told = c.in_ok-table.ensures.4 in record {
  frame_is = sym (ap (λ m. m.0.frame) told);
  frame_most = c.requires;
  many = ap (λ m. length m.0.places) told ∙ length-replicate {A = Place} 3776 free;
  placed = subst (λ (v : SeatView). (q : ℕ) → IsUpTo v.greatest (place_at v.places q)) (ap (λ m. m.0) (sym told)) (none_placed 3776);
  greatest_most = omega (arith, ap (λ m. m.0.greatest) told);
  is_api = ap (λ m. m.0.role) told;
  all_learnt = ap (λ m. m.0.shows) told;
  no_slot = ap (λ m. m.1) told;
}
