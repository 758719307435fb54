use Rattle.std.proofs.Common.{inl, inr, refl, ap, sym, ◌∙◌, subst}
use Rattle.c_calls.specs.Calls.{is_over}
use Rattle.c_calls.specs.Frames.{FramesInto}
use Rattle.c_calls.specs.Views.{ContextView}
use Rattle.c_calls.proofs.context.Context.frame.Goals as goal

pub frame_into-requires : goal.frame_into-requires
frame_into-requires c = ap is_over (c.is_abandoned.ensures.same c.if-is_abandoned.false) ∙ sym c.is_ended.ensures ∙ c.if-is_ended.false

pub returns-then-is_ended : goal.returns-then-is_ended
returns-then-is_ended c = inl (refl, refl, inl (sym c.is_ended.ensures ∙ c.if-is_ended.true, refl))

pub returns-then-is_abandoned : goal.returns-then-is_abandoned
returns-then-is_abandoned c = inl (refl, refl, inr (sym c.is_ended.ensures ∙ c.if-is_ended.false, c.is_abandoned.ensures.abandoned c.if-is_abandoned.true))

pub returns : goal.returns
returns c = inr (sym c.is_ended.ensures ∙ c.if-is_ended.false, subst (λ (v : ContextView). FramesInto c.frame_into.result c.args.buffer.now c.frame_into.new.buffer v c.frame_into.new.self) (c.is_abandoned.ensures.same c.if-is_abandoned.false) c.frame_into.ensures)
