use Rattle.std.proofs.Common.{List, sym, subst}
use Rattle.frame_record.specs.declared.frame.Frame.{Frame}
use Rattle.scene_tracing.specs.Tracing.{Traces}
use Rattle.scene_tracing.proofs.link.TracingLinkFrameLink.take_back.Goals as goal

pub invariant_of-self : goal.invariant_of-self
invariant_of-self c = record { traced = subst (λ (fs : List Frame). Traces c.args.self.now.tracer fs) (sym c.take_back.ensures.given) c.args.self.now.traced }
