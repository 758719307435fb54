use Rattle.std.proofs.Common.{◌≡◌, ◌++◌, [], ◌∷◌, length, length-append, List, refl, sym, ap, ◌∙◌, arith}
use Rattle.frame_record.specs.declared.frame.RenderedFrame.{RenderedFrame}
use Rattle.frame_swap.specs.Views.{SwapView}
use Rattle.render_core.specs.Rendered.{Rendering, AreRendered, rendered_none, rendered_more, seen_by}
use Rattle.scene_showing.proofs.beside.fn.render_beside.scope.Goals as goal

-- a renderer that rendered no frame is as it was
none_rendered : {old new : Rendering} {rs : List RenderedFrame} → AreRendered old rs new → length rs ≡ 0 → new ≡ old
none_rendered rendered_none none = refl
none_rendered (rendered_more {rs} r before step) none = absurd (omega (arith, none, length-append rs (r ∷ [])))

none_more : (front rest : List RenderedFrame) → length (front ++ rest) ≡ 0 → length rest ≡ 0
none_more front rest none = omega (arith, none, length-append front rest)

pub returns-in-Err : goal.returns-in-Err
returns-in-Err g c =
    let run = c.job-renderer.ensures in
    let back = c.close-in-Err.ensures.returned ∙ ap (λ (v : SwapView). v.back) c.stop-in-Err.ensures.view ∙ c.requires.api.1 in
    let none = none_more _ run.rendered (ap length (sym run.returned ∙ back)) in
    record { shown = tt; refused = none_rendered run.frames none ∙ ap (λ v. seen_by g.P.Sink.held g.P.Sink.tally g.P.Sink.faults g.P.Sink.sure v.0) c.in-Err.ensures.err }
