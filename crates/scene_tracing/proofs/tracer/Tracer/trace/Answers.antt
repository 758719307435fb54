use Rattle.scene_tracing.proofs.Frames.{trace-reaches}
use Rattle.scene_tracing.proofs.tracer.Tracer.trace.Goals as goal

pub returns-in-Ok-clause-traces : goal.returns-in-Ok-clause-traces
returns-in-Ok-clause-traces c = λ frames traces whole.
    trace-reaches c.args.self.now.asked c.args.self.now.left _ _ _ c.args.self.now.history frames c.args.frame.now c.in-Ok.history c.requires.none c.requires.here (traces whole) c.in-Ok.ensures
