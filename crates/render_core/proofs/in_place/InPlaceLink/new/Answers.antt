use Rattle.std.proofs.Common.{rules, ◌≡◌, ℕ, List, length, replicate, ◌+◌, ◌-◌, sym, subst, ap, arith, ◌∙◌, [], None}
use Rattle.atomic_table.specs.Table.{opening}
use Rattle.frame_record.specs.declared.frame.RenderedFrame.{RenderedFrame}
use Rattle.frame_swap.specs.Views.{first_view, empty_slots, Mine}
use Rattle.frame_swap.specs.Rule.{IsHeld}
use Rattle.frame_swap.proofs.Openings.{opens}
use Rattle.render_core.specs.declared.renderer.Renderer.{Renderer}
use Rattle.render_core.specs.Rendered.{AreRendered, rendered_none, seen_by}
use Rattle.render_core.proofs.in_place.InPlaceLink.new.Goals as goal

pub vacant-requires : goal.vacant-requires
vacant-requires g c =
    let words : c.as_slice.result.now ≡ replicate c.args.latency 0 = search rules in
    subst (λ (ws : List ℕ). IsHeld c.args.latency (opening ws (replicate c.args.latency None) first_view)) (sym words) (opens c.args.latency (search rules))

pub invariant_of-result : goal.invariant_of-result
invariant_of-result g c =
    let view = c.claim_all.ensures.view in
    let whole : 0 + c.args.latency - 0 ≡ c.args.latency = omega arith in
    record {
      counts = search rules;
      keyed = search rules;
      some_word = search rules;
      seated = search rules;
      is_api = search rules;
      claimed = search rules;
      next_is = search rules;
      oldest_is = search rules;
      few = search rules;
      has = ap (λ (m : Mine). m.1) view ∙ ap (λ (n : ℕ). empty_slots c.args.latency 0 n) (sym whole) ∙ (λ j. empty_slots c.args.latency (length (sym view j).0.given) (length (sym view j).0.back + c.args.latency - length (sym view j).0.given));
      all_rendered = search rules;
      back_is = search rules;
      frames_are = subst (λ (rs : List RenderedFrame). ∥ AreRendered (seen_by g.P.Sink.held g.P.Sink.tally g.P.Sink.faults g.P.Sink.sure c.of-opening.result.value) rs (seen_by g.P.Sink.held g.P.Sink.tally g.P.Sink.faults g.P.Sink.sure c.args.renderer) ∥₁)
          (sym (ap (λ (m : Mine). m.0.returned) c.claim_all.ensures.view))
          (subst (λ (r : Renderer g.row.P.Denot). ∥ AreRendered (seen_by g.P.Sink.held g.P.Sink.tally g.P.Sink.faults g.P.Sink.sure r) [] (seen_by g.P.Sink.held g.P.Sink.tally g.P.Sink.faults g.P.Sink.sure c.args.renderer) ∥₁) (sym c.of-opening.ensures) ∣ rendered_none ∣₁);
    }
