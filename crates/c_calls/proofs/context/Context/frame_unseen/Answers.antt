use Rattle.std.proofs.Common.{inl}
use Rattle.c_calls.proofs.Frames.{told_unseen}
use Rattle.c_calls.proofs.context.Context.frame_unseen.Goals as goal

pub returns-in-Err : goal.returns-in-Err
returns-in-Err c = inl c.in-Err.ensures

pub returns-in-Ok : goal.returns-in-Ok
returns-in-Ok c =
    let m = c.in-Ok.ensures in
    told_unseen m.1 c.in-Ok.dropped c.args.self.now m.0 c.make.new.self c.requires m.3 c.tell.result (c.tell.ensures m.1 m.0 m.2 m.4)
