use Rattle.std.proofs.Common.{sym, ap, ◌∙◌, subst, arith, List, slice_index_or}
use Rattle.gfx_model.proofs.PartlyMapped.{partly-next, partly-set, partly-done}
use Rattle.resource_book.specs.Stacks.{StackView, CanReclaim, reclaimed}
use Rattle.resource_book.proofs.ReclaimLaws.{map_from_map}
use Rattle.resource_book.proofs.stacks.reclaim_all.Goals as goal

pub reclaim-requires : goal.reclaim-requires
reclaim-requires c =
    let can : CanReclaim (slice_index_or c.loop-i.stacks c.loop-i.i c.index-stacks-i.result) =
    subst CanReclaim (sym (ap (λ (ss : List StackView). slice_index_or ss c.loop-i.i c.index-stacks-i.result) c.loop-i.invariant ∙ partly-next (λ k s. reclaimed c.args.latency c.args.frame s) 0 c.loop-i.i c.args.stacks.now c.index-stacks-i.result))
    (c.requires c.loop-i.i c.index-stacks-i.result (omega (arith, c.loop-i-test.true))) in
    record { once = can.once; below = can.below }

pub loop-i-preserved : goal.loop-i-preserved
loop-i-preserved c =
    partly-set (λ k s. reclaimed c.args.latency c.args.frame s) c.loop-i.i c.args.stacks.now c.loop-i.stacks c.reclaim.new.self c.index-stacks-i.result c.loop-i.invariant
    (λ j. record { limit = c.reclaim.ensures.limit j; free = (c.reclaim.ensures.seen j).free; waiting = (c.reclaim.ensures.seen j).waiting }) (omega (arith, c.loop-i-test.true))

pub returns : goal.returns
returns c = partly-done (λ k s. reclaimed c.args.latency c.args.frame s) c.loop-i.i c.args.stacks.now c.loop-i.stacks c.loop-i.invariant (omega (arith, c.loop-i-test.false, c.loop-i.auto.i-end)) ∙ map_from_map (reclaimed c.args.latency c.args.frame) 0 c.args.stacks.now
