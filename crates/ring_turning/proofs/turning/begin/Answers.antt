use Rattle.std.proofs.Common.{refl}
use Rattle.ring_turning.proofs.Turns.{begins_new}
use Rattle.ring_turning.proofs.turning.begin.Goals as goal

pub returns : goal.returns
returns g c =
    let begins = begins_new _ c.args.context.now.begun c.begin.result c.args.context.now c.begin.new.self refl c.begin.ensures in
    record { new = begins.0; frame = begins.1; more = begins.2; begun = begins.3 }
