use Rattle.std.proofs.Common.{◌<◌, length, arith}
use Rattle.std.proofs.lemmas.List.{get_or_read}
use Rattle.handle_alloc.proofs.Pairs.{given_by_place}
use Rattle.handle_alloc.proofs.HandleAlloc.is_live.Goals as goal

pub returns-then-index-len : goal.returns-then-index-len
returns-then-index-len c =
    let below : c.args.index < length c.self.inside.places.items = omega (arith, c.len.ensures, c.if-index-len.true) in
    given_by_place c.self.inside.order.items c.self.inside.places.items c.self.inside.given c.args.index c.index.result.now c.args.self.now
    c.self.invariant.0 c.self.view_is (omega (arith, below, c.self.invariant.0.lengths))
    (get_or_read c.self.inside.places.items c.args.index c.index.result.now below c.index.ensures 0)
