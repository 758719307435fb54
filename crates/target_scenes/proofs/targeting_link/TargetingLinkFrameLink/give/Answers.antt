use Rattle.std.proofs.Common.{◌++◌, ◌∷◌, [], List, sym, ap, subst, ◌∙◌}
use Rattle.frame_record.specs.declared.frame.Frame.{Frame}
use Rattle.frame_keeping.specs.Kept.{given_by}
use Rattle.target_scenes.specs.Finding.{Finds}
use Rattle.target_scenes.proofs.targeting_link.TargetingLinkFrameLink.give.Goals as goal

pub invariant_of-self : goal.invariant_of-self
invariant_of-self c =
    let link = c.args.self.now in
    record {
      finds =
          subst (λ (fs : List Frame). ∥ Finds c.take-frame.new.self fs ∥₁) (sym (c.give.ensures.given ∙ ap (λ (f : Frame). given_by link.link ++ f ∷ []) c.take-frame.ensures.frame))
          (c.take-frame.ensures.finds (given_by link.link) link.finds);
    }
