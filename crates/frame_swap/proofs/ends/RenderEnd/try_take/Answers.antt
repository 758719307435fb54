use Rattle.std.proofs.Common.{rules, ◌≡◌, ℕ, zero, suc, ◌-◌, ◌%◌, ◌∷◌, [], length, length-append, arith, Some, None, sym, ap, ◌∙◌}
use Rattle.atomic_table.specs.Table.{rest}
use Rattle.frame_swap.specs.Views.{SwapView, Slots, Mine, empty_slots, took}
use Rattle.frame_swap.specs.declared.content.Content.TheVariants.{Given}
use Rattle.frame_swap.proofs.Steps.{takes_keep}
use Rattle.frame_swap.proofs.Slots.{headed, none_held}
use Rattle.frame_swap.proofs.ends.RenderEnd.try_take.Goals as goal

pub compare_exchange-found-requires : goal.compare_exchange-found-requires
compare_exchange-found-requires c = let a = c.args.self.now in (search rules, search rules, takes_keep _ _ _ _ _ a.is_render (none_held _ _ c.requires.none_held) (search rules))

pub exchange-requires : goal.exchange-requires
exchange-requires c = let h = c.compare_exchange-found.ensures.2.0 c.if-found-eq1.true in (search rules, (Some (Given h.0), headed _ _ _ _ (ap (λ m. m.1) h.1)))

pub invariant_of-self : goal.invariant_of-self
invariant_of-self c =
    let a = c.args.self.now in
    let v = a.seat.me.0 in
    let h = c.compare_exchange-found.ensures.2.0 c.if-found-eq1.true in
    let mid = c.exchange.ensures.3 in
    let now = c.exchange.new.seat in
    let view : now.me.0 ≡ took h.0 v = ap (λ (m : Mine). m.0) mid ∙ ap (λ (m : Mine). m.0) h.1 in
    let slots : now.me.1 ≡ (a.place, None) ∷ a.seat.me.1 = ap (λ (m : Mine). m.1) mid ∙ ap (λ (m : Mine). (a.place, None) ∷ rest m.1) h.1 in
    let held : length v.taken ≡ length v.returned = none_held _ _ c.requires.none_held in
    let returned : length now.me.0.returned ≡ length v.returned = ap (λ (u : SwapView). length u.returned) view in
    let taken : length now.me.0.taken ≡ suc (length v.taken) = let l = length-append v.taken (h.0 ∷ []) in let e = ap (λ (u : SwapView). length u.taken) view in omega arith in
    let none : length v.taken - length v.returned ≡ zero = omega arith in
    let one : suc zero ≡ length now.me.0.taken - length now.me.0.returned = omega arith in
    record {
      counts = a.counts;
      keyed = a.keyed;
      some_word = a.some_word;
      seated = search rules;
      is_render = ap (λ (u : SwapView). u.side) view ∙ a.is_render;
      place_is = a.place_is ∙ ap (λ (x : ℕ). x % a.latency) (sym returned);
      one_hand = (omega arith, omega arith);
      has =
          slots
          ∙ ap (λ (l : Slots). (a.place, None) ∷ l) (a.has ∙ ap (λ (k : ℕ). empty_slots a.latency (length v.returned) k) none)
          ∙ ap (λ (x : ℕ). (x, None) ∷ []) a.place_is
          ∙ (λ j. empty_slots a.latency (sym returned j) (one j));
    }
