use Rattle.scene_tracing.proofs.Frames.{traces-same}
use Rattle.scene_tracing.proofs.link.TracingLink.new.Goals as goal

pub invariant_of-result : goal.invariant_of-result
invariant_of-result c = record { traced = traces-same c.in_ok-tracer.tracer _ _ c.in_ok-link.ensures.0 c.in_ok-tracer.ensures.traces }
