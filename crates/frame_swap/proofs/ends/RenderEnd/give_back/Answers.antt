use Rattle.std.proofs.Common.{rules, ◌≡◌, ℕ, suc, ◌-◌, ◌∷◌, [], ◌++◌, length, length-append, arith, Some, None, sym, ap, ◌∙◌, subst}
use Rattle.atomic_table.specs.Table.{rest}
use Rattle.frame_swap.specs.declared.content.Content.TheVariants.{Back}
use Rattle.frame_record.specs.Links.{frames_of}
use Rattle.frame_swap.specs.Views.{SwapView, Slots, Mine, empty_slots, gave_back}
use Rattle.frame_swap.proofs.Steps.{returns_keep}
use Rattle.frame_swap.proofs.Slots.{hand_slot, held_one, next_place, headed, first_value}
use Rattle.frame_swap.proofs.ends.RenderEnd.give_back.Goals as goal

pub exchange-requires : goal.exchange-requires
exchange-requires c =
    let a = c.args.self.now in
    let was = a.has ∙ hand_slot _ _ _ _ (held_one _ _ _ c.requires.unchanged) a.place_is in
    (search rules, (None, headed _ _ _ _ was))

pub unreachable-requires : goal.unreachable-requires
unreachable-requires c =
    let a = c.args.self.now in
    let was = a.has ∙ hand_slot _ _ _ _ (held_one _ _ _ c.requires.unchanged) a.place_is in
    let same : None ≡ Some c.in-Some.field-0 = ap first_value (sym was ∙ c.exchange.ensures.2) ∙ c.in-Some.is in
    absurd (cc same)

pub store-requires : goal.store-requires
store-requires c =
    let a = c.args.self.now in
    let was = a.has ∙ hand_slot _ _ _ _ (held_one _ _ _ c.requires.unchanged) a.place_is in
    let now = c.exchange.ensures.3 in
    let full = ap (λ (m : Mine). m.1) now ∙ ap (λ (l : Slots). (a.place, Some (Back c.args.back)) ∷ rest l) was in
    let last = subst (λ (v : SwapView). v.taken ≡ frames_of v.returned ++ c.args.back.frame ∷ []) (sym (ap (λ (m : Mine). m.0) now)) c.requires.unchanged in (
      search rules,
      search rules,
      returns_keep _ _ _ _ _ c.args.back _ (ap (λ m. m.0.side) now ∙ a.is_render) last (search rules) full,
    )

pub returns-clause-view : goal.returns-clause-view
returns-clause-view c =
    let a = c.args.self.now in
    let was = a.has ∙ hand_slot _ _ _ _ (held_one _ _ _ c.requires.unchanged) a.place_is in
    let now = c.exchange.ensures.3 in
    let full = ap (λ (m : Mine). m.1) now ∙ ap (λ (l : Slots). (a.place, Some (Back c.args.back)) ∷ rest l) was in
    ap (λ (m : Mine). m.0) (c.store.ensures.2 c.args.back _ full) ∙ ap (λ (m : Mine). gave_back c.args.back m.0) now

pub invariant_of-self : goal.invariant_of-self
invariant_of-self c =
    let a = c.args.self.now in
    let was = a.has ∙ hand_slot _ _ _ _ (held_one _ _ _ c.requires.unchanged) a.place_is in
    let now = c.exchange.ensures.3 in
    let full = ap (λ (m : Mine). m.1) now ∙ ap (λ (l : Slots). (a.place, Some (Back c.args.back)) ∷ rest l) was in
    let after = c.store.ensures.2 c.args.back _ full in
    let view = ap (λ (m : Mine). m.0) after ∙ ap (λ (m : Mine). gave_back c.args.back m.0) now in
    let one = held_one _ _ _ c.requires.unchanged in
    let taken : length c.store.new.seat.me.0.taken ≡ length a.seat.me.0.taken = ap (λ (v : SwapView). length v.taken) view in
    let returned : length c.store.new.seat.me.0.returned ≡ suc (length a.seat.me.0.returned) = let l = length-append a.seat.me.0.returned (c.args.back ∷ []) in let v = ap (λ (v : SwapView). length v.returned) view in omega arith in
    let none : length c.store.new.seat.me.0.taken - length c.store.new.seat.me.0.returned ≡ 0 = omega arith in
    record {
      counts = a.counts;
      keyed = a.keyed;
      some_word = a.some_word;
      seated = search rules;
      is_render = ap (λ (v : SwapView). v.side) view ∙ a.is_render;
      place_is = next_place a.latency a.place _ _ a.place_is returned;
      one_hand = (omega arith, omega arith);
      has = ap (λ (m : Mine). m.1) after ∙ ap (λ (k : ℕ). empty_slots a.latency (length c.store.new.seat.me.0.returned) k) (sym none);
    }
