use Rattle.std.proofs.Common.{sym, ap, subst, ◌∙◌}
use Rattle.ring_turning.specs.Spinning.{IsStopped}
use Rattle.ring_turning.proofs.Shown.{shows, none_shown}
use Rattle.ring_turning.proofs.spinning.spin_with.Goals as goal

pub returns-in-Ok : goal.returns-in-Ok
returns-in-Ok g c =
    let r = c.in-Ok.rendered in
    let left = shows c.texts_law.ensures c.kept_law.ensures c.args.frames r.outcome r.is_whole _ _ c.requires.new c.in-Ok.ensures.shown in
    let same = c.of_rendered.ensures in
    record {
      spun = rw (same.end, same.sink) left.0;
      sure = rw same.sink left.1;
      no_fewer = rw same.sink left.2;
    }

pub returns-in-Err-clause-spun : goal.returns-in-Err-clause-spun
returns-in-Err-clause-spun g c =
    let held = g.P.Sink.held in
    let same = c.into_sink.ensures ∙ ap (λ r. r.sink) c.in-Err.ensures.refused in
    subst (IsStopped c.args.frames (held c.args.renderer.sink)) (sym (ap held same)) (none_shown c.args.frames (held c.args.renderer.sink))
