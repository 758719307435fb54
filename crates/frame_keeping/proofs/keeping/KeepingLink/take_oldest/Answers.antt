use Rattle.std.proofs.Common.{rules, ◌≡◌, ℕ, suc, ◌+◌, ◌-◌, ◌%◌, ◌∷◌, [], ◌++◌, length, length-append, arith, None, List, drop, sym, ap, subst, ◌∙◌}
use Rattle.std.specs.List.{list_all}
use Rattle.frame_swap.specs.Views.{SwapView, Slots, Mine, empty_slots, later_of}
use Rattle.frame_record.specs.declared.frame.RenderedFrame.{RenderedFrame}
use Rattle.frame_record.specs.Links.{frames_of}
use Rattle.frame_swap.proofs.WholeSeat.{one_came}
use Rattle.frame_swap.proofs.Slots.{slots_back, next_place, one_more, came_back}
use Rattle.frame_keeping.specs.Shown.{is_shown}
use Rattle.frame_keeping.proofs.Shown.{shown_one}
use Rattle.frame_keeping.proofs.keeping.KeepingLink.take_oldest.Goals as goal

pub invariant_of-self : goal.invariant_of-self
invariant_of-self c =
    let a = c.args.self.now in
    let v = a.seat.me.0 in
    let now = c.back_here-rendered.new.seat in
    let r = c.back_here-rendered.result in
    let after = c.back_here-rendered.ensures.me in
    let view = ap (λ (m : Mine). m.0) after in
    let few = a.few in
    let more = c.requires.some_out in
    let given : length now.me.0.given ≡ length v.given = ap (λ (v : SwapView). length v.given) view in
    let back : length now.me.0.back ≡ suc (length v.back) = let l = length-append v.back (r ∷ []) in let e = ap (λ (v : SwapView). length v.back) view in omega arith in
    record {
      counts = a.counts;
      keyed = a.keyed;
      some_word = a.some_word;
      seated = search rules;
      is_api = (ap (λ (v : SwapView). v.side) view ∙ a.is_api.0, ap (λ (v : SwapView). v.is_whole) view ∙ a.is_api.1);
      claimed = ap (λ (v : SwapView). v.claimed) view ∙ a.claimed;
      next_is = a.next_is ∙ ap (λ (x : ℕ). x % a.latency) (sym given);
      oldest_is = next_place a.latency a.oldest _ _ a.oldest_is back;
      few = (omega arith, omega arith);
      has =
          ap (λ (m : Mine). m.1) after
          ∙ ap (λ (l : Slots). l ++ (a.oldest, None) ∷ []) a.has
          ∙ ap (λ (x : ℕ). empty_slots a.latency (length v.given) (length v.back + a.latency - length v.given) ++ (x, None) ∷ []) a.oldest_is
          ∙ slots_back a.latency (length v.given) (length v.back) few.1
          ∙ (λ j. empty_slots a.latency (sym given j) (sym back j + a.latency - sym given j));
      all_kept = (
        ap (λ (v : SwapView). v.taken) view ∙ a.all_kept.0 ∙ ap (λ (v : SwapView). v.given) (sym view),
        ap (λ (v : SwapView). v.given) view ∙ a.all_kept.1 ∙ ap (λ (v : SwapView). frames_of v.returned) (sym view),
      );
      back_is = ap (λ (v : SwapView). v.returned) view ∙ one_came v.returned v.back r c.back_here-rendered.ensures.outcome ∙ (λ j. (sym view j).back ++ later_of (sym view j).returned (sym view j).back);
      all_shown = ap (λ (v : SwapView). list_all is_shown v.returned) view ∙ a.all_shown;
    }

pub returns-clause-back : goal.returns-clause-back
returns-clause-back c =
    let v = c.args.self.now.seat.me.0 in
    let r = c.back_here-rendered.result in
    came_back v.given v.back c.back_here-rendered.new.seat.me.0.back r
    (c.back_here-rendered.ensures.oldest ∙ ap (λ (n : ℕ). frames_of v.back ++ r.frame ∷ drop n v.given) (sym (one_more v.back r)))
    (ap (λ (m : Mine). m.0.back) c.back_here-rendered.ensures.me)

pub returns-clause-shown : goal.returns-clause-shown
returns-clause-shown c =
    let a = c.args.self.now in
    shown_one a.seat.me.0.returned a.seat.me.0.back c.back_here-rendered.result _ a.all_shown c.back_here-rendered.ensures.outcome
