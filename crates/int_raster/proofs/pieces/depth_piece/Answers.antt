use Rattle.std.proofs.Common.{◌<◌, ◌≤◌, ◌-◌, ◌/◌, ◌^◌, arith, length, sym, ◌∙◌}
use Rattle.tri_cover.specs.Widened.{wide_whole}
use Rattle.int_raster.proofs.Ramped.{halves, halves_more, upper_whole}
use Rattle.int_raster.proofs.Carried.{depths_right, depths_few}
use Rattle.int_raster.proofs.Held.{depths_none, few_none, depths_more, few_more, depths_all, few_all}
use Rattle.int_raster.proofs.pieces.depth_piece.Goals as goal

pub returns-then-depths_by_four-clause-depths : goal.returns-then-depths_by_four-clause-depths
returns-then-depths_by_four-clause-depths c =
    let s = c.args.piece.now in
    let start = c.wide_value_at-start.result in
    depths_right c.args.ramp.now s.y s.first s.after start c.depths_by_four.new.depths c.wide_value_at-start.ensures
    (λ k h. c.depths_by_four.ensures c.if-depths_by_four.true start c.args.ramp.now.right k (sym c.upper_half-high.ensures) (sym c.upper_half-by_high.ensures) h)

pub returns-then-depths_by_four-clause-few : goal.returns-then-depths_by_four-clause-few
returns-then-depths_by_four-clause-few c =
    let s = c.args.piece.now in
    let start = c.wide_value_at-start.result in
    depths_few c.args.ramp.now s.y s.first s.after c.depths_by_four.new.depths
    (depths_right c.args.ramp.now s.y s.first s.after start c.depths_by_four.new.depths c.wide_value_at-start.ensures
    (λ k h. c.depths_by_four.ensures c.if-depths_by_four.true start c.args.ramp.now.right k (sym c.upper_half-high.ensures) (sym c.upper_half-by_high.ensures) h))

pub loop-x-init : goal.loop-x-init
loop-x-init c = record {
  depth = halves c.wide_value_at-start.result c.upper_half-high.result c.lower_half-low.result c.upper_half-high.ensures c.lower_half-low.ensures ∙ c.wide_value_at-start.ensures;
  small = omega (arith, c.lower_half-low.ensures);
  held = depths_none (λ x. wide_whole c.args.ramp.now x c.args.piece.now.y) c.args.piece.now.first c.depths_by_four.new.depths;
  few = few_none c.args.piece.now.first c.depths_by_four.new.depths;
}

pub loop-x-preserved : goal.loop-x-preserved
loop-x-preserved c =
    let s = c.args.piece.now in
    let r = c.args.ramp.now in
    let i = c.loop-x.invariant in
    let depth = c.loop-x.high / 2 ^ 40 in
    let inside : c.loop-x.x - s.first < length c.loop-x.depths = omega (arith, c.loop-x-test.true, c.loop-x.auto.depths, c.loop-x.auto.x, c.requires.room) in
    let near : depth ≤ 16777215 = omega (arith, i.depth) in
    record {
      depth = halves_more r c.loop-x.x s.y c.loop-x.high c.loop-x.low c.upper_half-by_high.result c.lower_half-by_low.result c.sum_of_halves.result.0 c.sum_of_halves.result.1 i.depth c.upper_half-by_high.ensures c.lower_half-by_low.ensures c.sum_of_halves.ensures.sum;
      small = c.sum_of_halves.ensures.small;
      held = depths_more (λ x. wide_whole r x s.y) s.first c.loop-x.x depth c.loop-x.depths i.held c.loop-x.auto.x inside (upper_whole r c.loop-x.x s.y c.loop-x.high c.loop-x.low i.depth i.small);
      few = few_more s.first c.loop-x.x depth c.loop-x.depths i.few c.loop-x.auto.x inside near;
    }

pub returns-clause-depths : goal.returns-clause-depths
returns-clause-depths c = depths_all (λ x. wide_whole c.args.ramp.now x c.args.piece.now.y) c.args.piece.now.first c.loop-x.x c.args.piece.now.after c.loop-x.depths c.loop-x.invariant.held (omega arith)

pub returns-clause-few : goal.returns-clause-few
returns-clause-few c = few_all c.args.piece.now.first c.loop-x.x c.args.piece.now.after c.loop-x.depths c.loop-x.invariant.few (omega arith)
