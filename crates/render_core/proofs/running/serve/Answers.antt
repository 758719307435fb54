use Rattle.std.proofs.Common.{rules, ◌≡◌, List, [], ◌∷◌, ◌++◌, append_assoc, append-nil, refl, sym, ap, ◌∙◌}
use Rattle.frame_record.specs.declared.frame.RenderedFrame.{RenderedFrame}
use Rattle.frame_record.specs.Links.{frames_of}
use Rattle.frame_swap.specs.Views.{SwapView, gave_back, took, with_misses}
use Rattle.frame_swap.proofs.WholeSeat.{one_rendered}
use Rattle.render_core.specs.Rendered.{rendered_none, rendered_more}
use Rattle.render_core.proofs.running.serve.Goals as goal

pub loop-preserved : goal.loop-preserved
loop-preserved g c =
    let old = c.loop.end.seat.me.0 in
    let f = c.in-Some-take.frame in
    let r = c.render-rendered.result in
    let n = c.take.new.self.seat.me.0.misses in
    let view : c.give_back.new.self.seat.me.0 ≡ gave_back r (with_misses n (took f old)) = c.give_back.ensures.view ∙ ap (gave_back r) c.in-Some-take.ensures.frame in
    let inv = c.loop.invariant in
    record {
      run = record {
        same = search rules;
        none_held = ap (λ (v : SwapView). v.taken) view ∙ one_rendered old.taken old.returned f r inv.run.none_held c.render-rendered.ensures.frame ∙ ap (λ (v : SwapView). frames_of v.returned) (sym view);
        rendered = inv.run.rendered ++ r ∷ [];
        returned = ap (λ (v : SwapView). v.returned) view ∙ ap (λ (rs : List RenderedFrame). rs ++ r ∷ []) inv.run.returned ∙ append_assoc c.args.end.seat.me.0.returned inv.run.rendered (r ∷ []);
        frames = rendered_more r inv.run.frames c.render-rendered.ensures.rendered;
      };
      stops = ap (λ (v : SwapView). v.stops) view ∙ inv.stops;
    }

pub loop-init : goal.loop-init
loop-init g c = record { run = record { same = refl; none_held = c.requires; rendered = []; returned = sym (append-nil c.args.end.seat.me.0.returned); frames = rendered_none }; stops = refl }
