use Rattle.std.proofs.Common.{refl, ap}
use Rattle.context_core.specs.States.{CoreView}
use Rattle.c_calls.specs.Rendered.{rendering_of}
use Rattle.c_calls.proofs.Openings.{most_is}
use Rattle.c_calls.proofs.context.Context.open.Goals as goal

pub returns : goal.returns
returns c =
    let drawn = c.in_ok-renderer.ensures in
    record {
      sides = c.requires.sides;
      state = ap (λ (v : CoreView). v.state) c.in_ok-boxes.ensures;
      rows = c.in_ok-things.ensures;
      renderer = drawn;
      standing = refl;
      most = most_is c.args.width c.args.height (rendering_of c.in_ok-renderer.renderer) c.in_ok-renderer.renderer.sink.capacity refl drawn;
    }
