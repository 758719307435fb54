use Rattle.scene_tracing.proofs.Frames.{traces-same}
use Rattle.scene_tracing.proofs.link.TracingLinkFrameLink.try_take_back.Goals as goal

pub invariant_of-self : goal.invariant_of-self
invariant_of-self c = record { traced = traces-same c.args.self.now.tracer _ _ c.try_take_back.ensures.given c.args.self.now.traced }
