use Rattle.std.proofs.Common.{◌-◌, arith}
use Rattle.scene_tracing.proofs.Frames.{render-reaches}
use Rattle.scene_tracing.proofs.tracer.Tracer.render.Goals as goal

pub returns-clause-traces : goal.returns-clause-traces
returns-clause-traces c = λ frames traces rendered.
    render-reaches c.args.self.now.asked c.args.self.now.left (c.args.self.now.left - 1) _ _ c.args.self.now.history frames c.args.frame c.requires.none (omega (arith, c.requires.some)) (c.render_one-frame.ensures.stores rendered)
    (traces c.requires.whole)
