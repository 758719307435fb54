use Rattle.c_calls.specs.Rendered.{rendering_of}
use Rattle.c_calls.proofs.Openings.{first_is}
use Rattle.c_calls.proofs.context.new_renderer.Goals as goal

pub returns-in-Ok : goal.returns-in-Ok
returns-in-Ok c =
    let s = c.in_ok-sink.sink in
    let e = c.in_ok-sink.ensures in
    first_is c.args.width c.args.height (rendering_of c.in-Ok.renderer) s.text.items s.faults s.capacity c.in-Ok.ensures.new e.0 e.1 e.2
