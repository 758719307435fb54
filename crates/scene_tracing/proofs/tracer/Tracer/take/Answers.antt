use Rattle.std.proofs.Common.{inl, inr, sym, ◌∙◌}
use Rattle.scene_tracing.proofs.Frames.{alone-reaches, none-of}
use Rattle.scene_tracing.proofs.tracer.Tracer.take.Goals as goal
use Rattle.scene_tracing.proofs.tracer.Tracer.take.Goals.{then-not-self-via-then-not-self, then-not-self-via-else-not-self+then-is_some}

pub returns-then-not-self-clause-traces : goal.returns-then-not-self-clause-traces
returns-then-not-self-clause-traces c = λ frames traces whole.
    elim c.then-not-self.branch [
      | then-not-self-via-then-not-self w ↦ alone-reaches c.args.self.now.asked c.args.self.now.left _ c.args.self.now.history c.args.self.now.is_whole frames c.args.frame (inl w.if-not-self.true) traces whole
      | then-not-self-via-else-not-self+then-is_some w ↦
          alone-reaches c.args.self.now.asked c.args.self.now.left _ c.args.self.now.history c.args.self.now.is_whole frames c.args.frame (inr (sym w.is_some.ensures ∙ w.if-is_some.true)) traces whole
    ]

pub render-requires-clause-none : goal.render-requires-clause-none
render-requires-clause-none c = none-of c.args.self.now.history (sym c.is_some.ensures ∙ c.if-is_some.false)

pub trace-requires-clause-none : goal.trace-requires-clause-none
trace-requires-clause-none c = none-of c.args.self.now.history (sym c.is_some.ensures ∙ c.if-is_some.false)
