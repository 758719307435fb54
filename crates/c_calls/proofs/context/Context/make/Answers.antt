use Rattle.std.proofs.Common.{◌∙◌}
use Rattle.c_calls.specs.Frames.{came_back}
use Rattle.c_calls.specs.Views.{ContextView}
use Rattle.c_calls.proofs.context.Context.make.Goals as goal

pub finish-requires : goal.finish-requires
finish-requires c = record { ready = (c.collect.new.self.core, c.in-Ok.ensures.prepares) }

pub returns-in-Err : goal.returns-in-Err
returns-in-Err c =
    let e = c.collect.ensures in
    record {
      mid = c.collect.new.self.core;
      gathers = e.0;
      cause = (c.in-Err.cause, c.not_made.ensures, c.in-Err.ensures.prepares);
      same = c.in-Err.ensures.same ∙ (λ j. record (e.2 j) { core = c.prepare.new.self.core });
    }

pub returns-in-Ok : goal.returns-in-Ok
returns-in-Ok c =
    let e = c.collect.ensures in
    let f = c.finish.ensures in
    let mid : ContextView = record c.prepare.new.self { core = came_back f.1 } in (
      mid,
      f.0,
      f.2,
      record {
        mid = c.collect.new.self.core;
        gathers = e.0;
        dropped_is = c.dropped-dropped.ensures;
        prepared = c.in-Ok.prepared;
        ready = c.prepare.new.self.core;
        made = f.1;
        is_ready = c.in-Ok.ensures.prepares;
        gives = f.3;
        after = (λ j. record (c.in-Ok.ensures.same j) { core = came_back f.1 }) ∙ (λ j. record (e.2 j) { core = came_back f.1 });
      },
      f.4,
    )
