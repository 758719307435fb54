use Rattle.std.proofs.Common.{inl, inr, refl, sym, ◌∙◌, subst}
use Rattle.c_calls.specs.Begun.{IsReadied}
use Rattle.c_calls.specs.Frames.{IsStopped}
use Rattle.c_calls.specs.Views.{ContextView}
use Rattle.c_calls.proofs.context.Context.begin_frame.Goals as goal

pub returns-then-is_abandoned : goal.returns-then-is_abandoned
returns-then-is_abandoned c = inl (refl, inr (sym c.is_ended.ensures ∙ c.if-is_ended.false, c.is_abandoned.ensures.abandoned c.if-is_abandoned.true))

pub open_frame-requires-clause-ready : goal.open_frame-requires-clause-ready
open_frame-requires-clause-ready c =
    let now : ContextView = c.prepare.new.self in
    let e = c.collect.ensures in
    let same = c.is_abandoned.ensures.same c.if-is_abandoned.false in
    let ready : IsReadied c.in-Ok.prepared c.dropped-dropped.result c.is_abandoned.new.self now = record {
      mid = c.collect.new.self.core;
      gathers = e.0;
      dropped_is = c.dropped-dropped.ensures;
      is_ready = c.in-Ok.ensures.prepares;
      same = c.in-Ok.ensures.same ∙ (λ j. record (e.2 j) { core = now.core });
    } in
    subst (λ (v : ContextView). IsReadied c.in-Ok.prepared c.dropped-dropped.result v now) (same ∙ sym c.of-from.ensures) ready

pub returns-in-Err : goal.returns-in-Err
returns-in-Err c =
    let now : ContextView = c.prepare.new.self in
    let e = c.collect.ensures in
    let stopped : IsStopped c.not_made.result c.is_abandoned.new.self now = record {
      mid = c.collect.new.self.core;
      gathers = e.0;
      cause = (c.in-Err.cause, c.not_made.ensures, c.in-Err.ensures.prepares);
      same = c.in-Err.ensures.same ∙ (λ j. record (e.2 j) { core = now.core });
    } in
    inr (sym c.is_ended.ensures ∙ c.if-is_ended.false, subst (λ (v : ContextView). IsStopped c.not_made.result v now) (c.is_abandoned.ensures.same c.if-is_abandoned.false) stopped)
