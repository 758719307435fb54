use Rattle.std.proofs.Common.{◌++◌, ◌∷◌, [], ap, ◌∙◌}
use Rattle.frame_record.specs.declared.frame.Frame.{Frame}
use Rattle.frame_keeping.specs.Kept.{given_by}
use Rattle.scene_tracing.proofs.Frames.{traces-same}
use Rattle.scene_tracing.proofs.link.TracingLinkFrameLink.give.Goals as goal

pub invariant_of-self : goal.invariant_of-self
invariant_of-self c = record {
  traced =
      traces-same c.take-frame.new.self _ _ (c.give.ensures.given ∙ ap (λ (f : Frame). given_by c.args.self.now.link ++ f ∷ []) c.take-frame.ensures.frame)
      (c.take-frame.ensures.traces (given_by c.args.self.now.link) c.args.self.now.traced);
}
