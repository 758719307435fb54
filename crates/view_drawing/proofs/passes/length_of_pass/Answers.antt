use Rattle.std.proofs.Common.{◌<◌, length, map, take, refl, sym, subst, arith}
use Rattle.std.specs.List.{AllByRecursion}
use Rattle.view_table.specs.Seen.{view_seen}
use Rattle.view_drawing.specs.Passes.{part_seen, turn_seen, HasNoBlits, IsPlain}
use Rattle.view_drawing.proofs.PassLaws.{all_at, all_put, map_more, pass_more}
use Rattle.view_drawing.proofs.passes.length_of_pass.Goals as goal

pub loop-count-preserved : goal.loop-count-preserved
loop-count-preserved c =
    let views = c.args.views.now in
    let i = c.loop-count.count in
    let p = c.index-views-count.result in
    let target = (view_seen c.args.first.now).target in
    let within : i < length views = omega (arith, c.loop-count-test.true, c.min-count-end.ensures) in
    record {
      pass = pass_more target (map turn_seen (take i views)) _ (turn_seen p) (map_more turn_seen views i p within c.index-views-count.is) c.loop-count.invariant.pass (c.if-not-joins.ensures.same refl) (c.if-not-joins.ensures.before refl)
          (all_at IsPlain part_seen i views p within c.index-views-count.is c.requires.plain);
      none = subst (AllByRecursion HasNoBlits) (sym (map_more part_seen views i p within c.index-views-count.is))
          (all_put HasNoBlits (map part_seen (take i views)) (part_seen p) c.loop-count.invariant.none (c.if-not-joins.ensures.none refl));
    }
