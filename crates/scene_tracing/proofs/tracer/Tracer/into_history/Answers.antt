use Rattle.std.proofs.Common.{◌≡◌, true}
use Rattle.scene_tracing.proofs.Frames.{history-traced, is-true}
use Rattle.scene_tracing.proofs.tracer.Tracer.into_history.Goals as goal

pub returns : goal.returns
returns c =
    let whole : c.args.self.is_whole ≡ true = is-true c.args.self.is_whole c.if-not-self.false in
    history-traced c.args.self whole
