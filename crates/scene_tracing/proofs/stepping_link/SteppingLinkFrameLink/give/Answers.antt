use Rattle.std.proofs.Common.{◌++◌, ◌∷◌, [], List, sym, ap, subst, ◌∙◌}
use Rattle.frame_record.specs.declared.frame.Frame.{Frame}
use Rattle.frame_keeping.specs.Kept.{given_by}
use Rattle.scene_tracing.specs.Stepping.{told_by, Steps}
use Rattle.scene_tracing.proofs.stepping_link.SteppingLinkFrameLink.give.Goals as goal

pub invariant_of-self : goal.invariant_of-self
invariant_of-self g c =
    let told = told_by g.P.Sink.held g.P.Sink.faults g.P.Sink.sure in
    let link = c.args.self.now in
    record {
      steps =
          subst (λ (fs : List Frame). ∥ Steps told c.take-frame.new.self (told link.opening.value) fs ∥₁)
          (sym (c.give.ensures.given ∙ ap (λ (f : Frame). given_by link.link ++ f ∷ []) c.take-frame.ensures.frame))
          (c.take-frame.ensures.steps (told link.opening.value) (given_by link.link) link.steps);
    }
