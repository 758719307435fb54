use Rattle.std.proofs.Common.{rules, ◌≡◌, ℕ, suc, ◌+◌, ◌-◌, ◌%◌, ◌∷◌, [], length, length-append, arith, Some, None, sym, ap, ◌∙◌}
use Rattle.atomic_table.specs.Table.{rest}
use Rattle.frame_swap.specs.declared.content.Content.TheVariants.{Given}
use Rattle.frame_swap.specs.Views.{SwapView, Slots, empty_slots, gave}
use Rattle.frame_swap.proofs.Steps.{gives_keep}
use Rattle.frame_swap.proofs.Slots.{next_slot, next_place, headed, first_value}
use Rattle.frame_swap.proofs.ends.ApiEnd.give.Goals as goal

pub exchange-requires : goal.exchange-requires
exchange-requires c =
    let a = c.args.self.now in
    let was = a.has ∙ next_slot _ _ _ _ c.requires.room a.next_is in
    (search rules, (None, headed _ _ _ _ was))

pub unreachable-requires : goal.unreachable-requires
unreachable-requires c =
    let a = c.args.self.now in
    let was = a.has ∙ next_slot _ _ _ _ c.requires.room a.next_is in
    let same : None ≡ Some c.in-Some.field-0 = ap first_value (sym was ∙ c.exchange.ensures.2) ∙ c.in-Some.is in
    absurd (cc same)

pub store-requires : goal.store-requires
store-requires c =
    let a = c.args.self.now in
    let was = a.has ∙ next_slot _ _ _ _ c.requires.room a.next_is in
    let now = c.exchange.ensures.3 in
    let full = ap (λ m. m.1) now ∙ ap (λ (l : Slots). (a.next, Some (Given c.args.frame)) ∷ rest l) was in (
      search rules,
      search rules,
      gives_keep _ _ _ _ _ c.args.frame _ (ap (λ m. m.0.side) now ∙ a.is_api) (search rules) (search rules) (search rules) full,
    )

pub returns-clause-view : goal.returns-clause-view
returns-clause-view c =
    let a = c.args.self.now in
    let was = a.has ∙ next_slot _ _ _ _ c.requires.room a.next_is in
    let now = c.exchange.ensures.3 in
    let full = ap (λ m. m.1) now ∙ ap (λ (l : Slots). (a.next, Some (Given c.args.frame)) ∷ rest l) was in
    ap (λ m. m.0) (c.store.ensures.2 c.args.frame _ full) ∙ ap (λ m. gave c.args.frame m.0) now

pub invariant_of-self : goal.invariant_of-self
invariant_of-self c =
    let a = c.args.self.now in
    let was = a.has ∙ next_slot _ _ _ _ c.requires.room a.next_is in
    let now = c.exchange.ensures.3 in
    let full = ap (λ m. m.1) now ∙ ap (λ (l : Slots). (a.next, Some (Given c.args.frame)) ∷ rest l) was in
    let after = c.store.ensures.2 c.args.frame _ full in
    let view = ap (λ m. m.0) after ∙ ap (λ m. gave c.args.frame m.0) now in
    let few = a.few in
    let room = c.requires.room in
    let given : length c.store.new.seat.me.0.given ≡ suc (length a.seat.me.0.given) = let l = length-append a.seat.me.0.given (c.args.frame ∷ []) in let v = ap (λ (v : SwapView). length v.given) view in omega arith in
    let back : length c.store.new.seat.me.0.back ≡ length a.seat.me.0.back = ap (λ (v : SwapView). length v.back) view in
    record {
      counts = a.counts;
      keyed = a.keyed;
      some_word = a.some_word;
      seated = search rules;
      is_api = ap (λ (v : SwapView). v.side) view ∙ a.is_api;
      claimed = ap (λ (v : SwapView). v.claimed) view ∙ a.claimed;
      next_is = next_place a.latency a.next _ _ a.next_is given;
      oldest_is = a.oldest_is ∙ ap (λ (x : ℕ). x % a.latency) (sym back);
      few = (omega arith, omega arith);
      has = ap (λ m. m.1) after ∙ (λ j. empty_slots a.latency (sym given j) (sym back j + a.latency - sym given j));
    }
