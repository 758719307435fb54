use Rattle.std.proofs.Common.{rules, ◌≡◌, ℕ, List, suc, ◌+◌, ◌-◌, ◌%◌, ◌∷◌, [], ◌++◌, length, length-append, arith, refl, sym, ap, subst, ◌∙◌}
use Rattle.std.specs.List.{list_all}
use Rattle.atomic_table.specs.Table.{rest}
use Rattle.frame_record.specs.declared.frame.Frame.{Frame}
use Rattle.frame_record.specs.declared.frame.Outcome.TheVariants as outcomes
use Rattle.frame_record.specs.declared.frame.RenderedFrame.{RenderedFrame}
use Rattle.frame_swap.specs.Views.{SwapView, Mine, empty_slots, gave, took, gave_back, later_of}
use Rattle.frame_record.specs.Links.{frames_of}
use Rattle.frame_swap.proofs.WholeSeat.{one_rendered, one_later, same_count}
use Rattle.frame_swap.proofs.Slots.{next_slot, next_place, headed}
use Rattle.frame_keeping.specs.Shown.{is_shown}
use Rattle.frame_keeping.proofs.Shown.{shown_more}
use Rattle.frame_keeping.proofs.keeping.KeepingLinkFrameLink.give.Goals as goal

pub give_here-frame-requires-clause-slot : goal.give_here-frame-requires-clause-slot
give_here-frame-requires-clause-slot c = let a = c.args.self.now in headed _ _ _ _ (a.has ∙ next_slot _ _ _ _ c.requires.room a.next_is)

pub invariant_of-self : goal.invariant_of-self
invariant_of-self c =
    let a = c.args.self.now in
    let v = a.seat.me.0 in
    let f = c.args.frame in
    let taken = c.give_here-frame.result in
    let r : RenderedFrame = record { frame = taken; outcome = outcomes.Shown } in
    let was = a.has ∙ next_slot _ _ _ _ c.requires.room a.next_is in
    let after : c.return_here.new.seat.me ≡ (gave_back r (took f (gave f v)), rest a.seat.me.1) = c.return_here.ensures.me ∙ ap (λ (m : Mine). (gave_back r m.0, rest m.1)) c.give_here-frame.ensures.me in
    let view = ap (λ (m : Mine). m.0) after in
    let same : r.frame ≡ f = c.give_here-frame.ensures.same.1 in
    let few = a.few in
    let room = c.requires.room in
    let given : length c.return_here.new.seat.me.0.given ≡ suc (length v.given) = let l = length-append v.given (f ∷ []) in let e = ap (λ (v : SwapView). length v.given) view in omega arith in
    let back : length c.return_here.new.seat.me.0.back ≡ length v.back = ap (λ (v : SwapView). length v.back) view in
    record {
      counts = a.counts;
      keyed = a.keyed;
      some_word = a.some_word;
      seated = search rules;
      is_api = (ap (λ (v : SwapView). v.side) view ∙ a.is_api.0, ap (λ (v : SwapView). v.is_whole) view ∙ a.is_api.1);
      claimed = ap (λ (v : SwapView). v.claimed) view ∙ a.claimed;
      next_is = next_place a.latency a.next _ _ a.next_is given;
      oldest_is = a.oldest_is ∙ ap (λ (x : ℕ). x % a.latency) (sym back);
      few = (omega arith, omega arith);
      has = ap (λ (m : Mine). m.1) after ∙ ap rest was ∙ (λ j. empty_slots a.latency (sym given j) (sym back j + a.latency - sym given j));
      all_kept = (
        ap (λ (v : SwapView). v.taken) view ∙ ap (λ (l : List Frame). l ++ f ∷ []) a.all_kept.0 ∙ ap (λ (v : SwapView). v.given) (sym view),
        ap (λ (v : SwapView). v.given) view ∙ one_rendered v.given v.returned f r a.all_kept.1 same ∙ ap (λ (v : SwapView). frames_of v.returned) (sym view),
      );
      back_is =
          ap (λ (v : SwapView). v.returned) view
          ∙ one_later v.returned v.back r (let n = same_count v.given v.returned a.all_kept.1 in omega arith) a.back_is
          ∙ (λ j. (sym view j).back ++ later_of (sym view j).returned (sym view j).back);
      all_shown = ap (λ (v : SwapView). list_all is_shown v.returned) view ∙ shown_more v.returned r a.all_shown refl;
    }
