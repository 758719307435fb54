use Rattle.std.proofs.Common.{◌<◌, ◌-◌, sym, ap, arith}
use Rattle.std.proofs.lemmas.List.{get_or_read}
use Rattle.handle_alloc.specs.Indices.{with_free}
use Rattle.handle_alloc.proofs.Pairs.{place_of_seen, paired-swap, drop-swap, length-two}
use Rattle.handle_alloc.proofs.HandleAlloc.free.Goals as goal

pub overflow_sub-self : goal.overflow_sub-self
overflow_sub-self c =
    omega (arith, place_of_seen c.self.inside.order.items c.self.inside.places.items c.self.inside.given c.args.index c.args.self.now c.self.invariant.0 c.self.view_is c.requires)

pub invariant_of-self : goal.invariant_of-self
invariant_of-self c =
    let placed = place_of_seen c.self.inside.order.items c.self.inside.places.items c.self.inside.given c.args.index c.args.self.now c.self.invariant.0 c.self.view_is c.requires in
    let long = length-two c.self.inside.order.items c.index-place.result.now c.index-moved.result.now (c.self.inside.given - 1) c.args.index in (
      paired-swap c.self.inside.order.items c.self.inside.places.items (c.self.inside.given - 1) c.args.index c.index-place.result.now c.index-moved.result.now
          c.self.invariant.0 (omega (arith, placed.0, c.self.invariant.1)) placed.1
          (sym (get_or_read c.self.inside.order.items (c.self.inside.given - 1) c.index-moved.result.now (omega (arith, placed.0, c.self.invariant.1)) c.index-moved.ensures 0))
          (sym (get_or_read c.self.inside.places.items c.args.index c.index-place.result.now (omega (arith, placed.1, c.self.invariant.0.lengths)) c.index-place.ensures 0)),
      omega (arith, long, c.self.invariant.1),
      omega (arith, long, c.self.invariant.2),
    )

pub returns : goal.returns
returns c =
    let placed = place_of_seen c.self.inside.order.items c.self.inside.places.items c.self.inside.given c.args.index c.args.self.now c.self.invariant.0 c.self.view_is c.requires in
    let long = length-two c.self.inside.order.items c.index-place.result.now c.index-moved.result.now (c.self.inside.given - 1) c.args.index in
    let place : c.index-place.result.now < c.self.inside.given
    = omega (arith, placed.0, get_or_read c.self.inside.places.items c.args.index c.index-place.result.now (omega (arith, placed.1, c.self.invariant.0.lengths)) c.index-place.ensures 0) in
    rw (
      long,
      drop-swap c.self.inside.order.items c.self.inside.given (c.self.inside.given - 1) c.args.index c.index-place.result.now c.index-moved.result.now
          (omega (arith, placed.0)) c.self.invariant.1 place,
    )
    (ap (with_free c.args.index) c.self.view_is)
