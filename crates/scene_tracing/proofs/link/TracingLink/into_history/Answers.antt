use Rattle.scene_tracing.proofs.Frames.{history-given}
use Rattle.scene_tracing.proofs.link.TracingLink.into_history.Goals as goal

pub returns : goal.returns
returns c = history-given c.args.self.tracer _ c.into_history.result c.args.self.traced c.into_history.ensures
