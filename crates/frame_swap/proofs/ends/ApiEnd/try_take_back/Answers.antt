use Rattle.std.proofs.Common.{rules, ◌≡◌, ℕ, suc, ◌+◌, ◌-◌, ◌%◌, ◌∷◌, [], ◌++◌, length, drop, length-append, arith, Some, None, sym, ap, ◌∙◌}
use Rattle.atomic_table.specs.Table.{rest, turned}
use Rattle.frame_swap.specs.declared.content.Content.{Content}
use Rattle.frame_swap.specs.declared.content.Content.TheVariants.{Back}
use Rattle.frame_swap.specs.Views.{SwapView, Slots, Mine, empty_slots}
use Rattle.frame_swap.proofs.Steps.{comes_keep}
use Rattle.frame_record.specs.declared.frame.RenderedFrame.{RenderedFrame}
use Rattle.frame_record.specs.Links.{frames_of}
use Rattle.frame_swap.proofs.Slots.{slots_back, next_place, headed, some_out, value_is, came_back}
use Rattle.frame_swap.proofs.ends.ApiEnd.try_take_back.Goals as goal

pub compare_exchange-requires : goal.compare_exchange-requires
compare_exchange-requires c = let a = c.args.self.now in (search rules, search rules, comes_keep _ _ _ _ _ a.is_api (search rules) (search rules))

pub exchange-found-requires : goal.exchange-found-requires
exchange-found-requires c = let h = c.compare_exchange.ensures.2.0 c.if-compare_exchange-ne3.false in (search rules, (Some (Back h.0), headed _ _ _ _ (ap (λ m. m.1) h.1)))

pub invariant_of-self-2 : goal.invariant_of-self-2
invariant_of-self-2 c =
    let a = c.args.self.now in
    let h = c.compare_exchange.ensures.2.0 c.if-compare_exchange-ne3.false in
    let mid = c.exchange-found.ensures.3 in
    let after : c.turn.new.self.me ≡ (c.compare_exchange.new.seat.me.0, rest c.compare_exchange.new.seat.me.1 ++ (a.oldest, None) ∷ []) = c.turn.ensures.2 ∙ ap (λ (m : Mine). (m.0, turned m.1)) mid in
    let view = ap (λ (m : Mine). m.0) after ∙ ap (λ (m : Mine). m.0) h.1 in
    let slots = ap (λ (m : Mine). m.1) after ∙ ap (λ (m : Mine). rest m.1 ++ (a.oldest, None) ∷ []) h.1 in
    let few = a.few in
    let more = some_out _ _ _ _ h.2 in
    let given : length c.turn.new.self.me.0.given ≡ length a.seat.me.0.given = ap (λ (v : SwapView). length v.given) view in
    let back : length c.turn.new.self.me.0.back ≡ suc (length a.seat.me.0.back) = let l = length-append a.seat.me.0.back (h.0 ∷ []) in let v = ap (λ (v : SwapView). length v.back) view in omega arith in
    record {
      counts = a.counts;
      keyed = a.keyed;
      some_word = a.some_word;
      seated = search rules;
      is_api = ap (λ (v : SwapView). v.side) view ∙ a.is_api;
      claimed = ap (λ (v : SwapView). v.claimed) view ∙ a.claimed;
      next_is = a.next_is ∙ ap (λ (x : ℕ). x % a.latency) (sym given);
      oldest_is = next_place a.latency a.oldest _ _ a.oldest_is back;
      few = (omega arith, omega arith);
      has =
          slots
          ∙ ap (λ (l : Slots). l ++ (a.oldest, None) ∷ []) a.has
          ∙ ap (λ (x : ℕ). empty_slots a.latency (length a.seat.me.0.given) (length a.seat.me.0.back + a.latency - length a.seat.me.0.given) ++ (x, None) ∷ []) a.oldest_is
          ∙ slots_back a.latency (length a.seat.me.0.given) (length a.seat.me.0.back) few.1
          ∙ (λ j. empty_slots a.latency (sym given j) (sym back j + a.latency - sym given j));
    }

pub returns-clause-order : goal.returns-clause-order
returns-clause-order c =
    let v = c.args.self.now.seat.me.0 in
    let h = c.compare_exchange.ensures.2.0 c.if-compare_exchange-ne3.false in
    let r = c.in-Some-Back.rendered in
    let after = c.turn.ensures.2 ∙ ap (λ (m : Mine). (m.0, turned m.1)) c.exchange-found.ensures.3 in
    let view = ap (λ (m : Mine). m.0) after ∙ ap (λ (m : Mine). m.0) h.1 in
    let same : Some (Back h.0) ≡ Some (Back r) = value_is _ _ _ _ _ _ (ap (λ (m : Mine). m.1) h.1) c.exchange-found.ensures.2 ∙ c.in-Some-Back.is ∙ ap (λ (x : Content). Some x) c.in-Some-Back.field-0-is in
    let it : h.0 ≡ r = cc same in
    came_back v.given v.back _ r (h.2 ∙ ap (λ (x : RenderedFrame). frames_of v.back ++ x.frame ∷ drop (suc (length v.back)) v.given) it) (ap (λ (u : SwapView). u.back) view ∙ ap (λ (x : RenderedFrame). v.back ++ x ∷ []) it)
