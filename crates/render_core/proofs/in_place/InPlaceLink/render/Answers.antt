use Rattle.std.proofs.Common.{rules, ◌≡◌, ℕ, List, suc, ◌+◌, ◌-◌, ◌%◌, ◌∷◌, [], ◌++◌, length, length-append, arith, sym, ap, subst, ◌∙◌}
use Rattle.std.proofs.Math.Logic.{∥∥₁_map}
use Rattle.atomic_table.specs.Table.{rest}
use Rattle.frame_record.specs.declared.frame.Frame.{Frame}
use Rattle.frame_record.specs.declared.frame.RenderedFrame.{RenderedFrame}
use Rattle.frame_swap.specs.Views.{SwapView, Mine, empty_slots, gave, took, gave_back, later_of}
use Rattle.frame_record.specs.Links.{frames_of}
use Rattle.render_core.specs.Rendered.{AreRendered, rendered_more, seen_by}
use Rattle.frame_swap.proofs.WholeSeat.{one_rendered, one_later, same_count}
use Rattle.frame_swap.proofs.Slots.{next_slot, next_place, headed}
use Rattle.render_core.proofs.in_place.InPlaceLink.render.Goals as goal

pub give_here-taken-requires-clause-slot : goal.give_here-taken-requires-clause-slot
give_here-taken-requires-clause-slot g c = let a = c.args.self.now in headed _ _ _ _ (a.has ∙ next_slot _ _ _ _ c.requires.room a.next_is)

pub invariant_of-self : goal.invariant_of-self
invariant_of-self g c =
    let a = c.args.self.now in
    let v = a.seat.me.0 in
    let f = c.args.frame in
    let r = c.render-rendered.result in
    let was = a.has ∙ next_slot _ _ _ _ c.requires.room a.next_is in
    let after : c.return_here.new.seat.me ≡ (gave_back r (took f (gave f v)), rest a.seat.me.1) = c.return_here.ensures.me ∙ ap (λ (m : Mine). (gave_back r m.0, rest m.1)) c.give_here-taken.ensures.me in
    let view = ap (λ (m : Mine). m.0) after in
    let same : r.frame ≡ f = c.render-rendered.ensures.frame ∙ c.give_here-taken.ensures.same.1 in
    let few = a.few in
    let room = c.requires.room in
    let given : length c.return_here.new.seat.me.0.given ≡ suc (length v.given) = let l = length-append v.given (f ∷ []) in let e = ap (λ (v : SwapView). length v.given) view in omega arith in
    let back : length c.return_here.new.seat.me.0.back ≡ length v.back = ap (λ (v : SwapView). length v.back) view in
    record {
      counts = a.counts;
      keyed = a.keyed;
      some_word = a.some_word;
      seated = search rules;
      is_api = (ap (λ (v : SwapView). v.side) view ∙ a.is_api.0, ap (λ (v : SwapView). v.is_whole) view ∙ a.is_api.1);
      claimed = ap (λ (v : SwapView). v.claimed) view ∙ a.claimed;
      next_is = next_place a.latency a.next _ _ a.next_is given;
      oldest_is = a.oldest_is ∙ ap (λ (x : ℕ). x % a.latency) (sym back);
      few = (omega arith, omega arith);
      has = ap (λ (m : Mine). m.1) after ∙ ap rest was ∙ (λ j. empty_slots a.latency (sym given j) (sym back j + a.latency - sym given j));
      all_rendered = (
        ap (λ (v : SwapView). v.taken) view ∙ ap (λ (l : List Frame). l ++ f ∷ []) a.all_rendered.0 ∙ ap (λ (v : SwapView). v.given) (sym view),
        ap (λ (v : SwapView). v.given) view ∙ one_rendered v.given v.returned f r a.all_rendered.1 same ∙ ap (λ (v : SwapView). frames_of v.returned) (sym view),
      );
      back_is =
          ap (λ (v : SwapView). v.returned) view
          ∙ one_later v.returned v.back r (let n = same_count v.given v.returned a.all_rendered.1 in omega arith) a.back_is
          ∙ (λ j. (sym view j).back ++ later_of (sym view j).returned (sym view j).back);
      frames_are =
          subst (λ (rs : List RenderedFrame). ∥ AreRendered (seen_by g.P.Sink.held g.P.Sink.tally g.P.Sink.faults g.P.Sink.sure a.opening.value) rs (seen_by g.P.Sink.held g.P.Sink.tally g.P.Sink.faults g.P.Sink.sure c.render-rendered.new.self) ∥₁)
          (sym (ap (λ (v : SwapView). v.returned) view)) (∥∥₁_map a.frames_are (λ k. rendered_more r k c.render-rendered.ensures.rendered));
    }

pub returns-clause-rendered : goal.returns-clause-rendered
returns-clause-rendered g c =
    let r = c.render-rendered.result in
    let f = c.args.frame in
    let after : c.return_here.new.seat.me ≡ (gave_back r (took f (gave f c.args.self.now.seat.me.0)), rest c.args.self.now.seat.me.1) =
    c.return_here.ensures.me ∙ ap (λ (m : Mine). (gave_back r m.0, rest m.1)) c.give_here-taken.ensures.me in
    (r, (c.render-rendered.ensures.frame ∙ c.give_here-taken.ensures.same.1, (ap (λ (m : Mine). m.0.returned) after, c.render-rendered.ensures.rendered)))
