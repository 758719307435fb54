use Rattle.std.proofs.Common.{◌+◌, ◌*◌, ◌%◌, ◌^◌, refl, ◌∙◌, arith}
use Rattle.int_raster.specs.Places.{deep_pixels, spanned, in_row}
use Rattle.int_raster.specs.Seen.{step_seen}
use Rattle.int_raster.proofs.Changes.{span_none}
use Rattle.int_raster.proofs.Ramped.{few_depths}
use Rattle.int_raster.proofs.Vectors.{splat_two}
use Rattle.int_raster.proofs.Windows.{cut_behind}
use Rattle.int_raster.proofs.gradients.shade_by_four.Goals as goal

pub loop-x-init : goal.loop-x-init
loop-x-init c =
    let s = c.args.span.now in
    record {
      low = omega arith;
      many = refl;
      deep = refl;
      tint = c.tint_at-tint.ensures;
      at = c.deep_at-at.ensures;
      done = span_none (spanned (in_row s.start s.y (step_seen c.args.draw.now c.args.setup.now)) 0 (s.start + s.after)) (s.start + s.first) (deep_pixels c.args.colors.now c.args.depths.now);
    }

pub store_window-requires-clause-paints : goal.store_window-requires-clause-paints
store_window-requires-clause-paints c j h less =
    c.shades_on.ensures.colors c.args.shade.now c.loop-x.x c.args.span.now.y j c.loop-x.invariant.tint c.tint_gain-gain.ensures h
    ∙ c.requires.paints (c.loop-x.x + j) (omega (arith, c.loop-x.invariant.low)) less

pub store_window-requires-clause-depths : goal.store_window-requires-clause-depths
store_window-requires-clause-depths c j h less =
    c.depths_of.ensures c.args.depth.now c.loop-x.x c.args.span.now.y j c.loop-x.invariant.at h
    ∙ c.requires.depths (c.loop-x.x + j) (omega (arith, c.loop-x.invariant.low)) less

pub store_window-requires-clause-few : goal.store_window-requires-clause-few
store_window-requires-clause-few c j h =
    few_depths c.args.depth.now (c.loop-x.x + j) c.args.span.now.y _ (c.depths_of.ensures c.args.depth.now c.loop-x.x c.args.span.now.y j c.loop-x.invariant.at h)

pub loop-x-preserved : goal.loop-x-preserved
loop-x-preserved c =
    let i = c.loop-x.invariant in
    record {
      low = omega (arith, i.low);
      many = c.store_window.ensures.many.0 ∙ i.many;
      deep = c.store_window.ensures.many.1 ∙ i.deep;
      tint = c.shades_on.ensures.next c.args.shade.now c.loop-x.x c.args.span.now.y i.tint c.tint_gain-gain.ensures;
      at = c.deep_on-at.ensures c.args.depth.now c.loop-x.x c.args.span.now.y i.at (splat_two (c.args.depth.now.right * 4 % 2 ^ 64));
      done = c.store_window.ensures.more c.args.rule.now c.args.colors.now c.args.depths.now c.requires.plain c.reach_of-reach.ensures i.done;
    }

pub returns : goal.returns
returns c =
    let s = c.args.span.now in
    c.loop-x.invariant.done ∙ cut_behind (in_row s.start s.y (step_seen c.args.draw.now c.args.setup.now)) (s.start + s.first) (s.start + s.after) (s.start + c.loop-x.x) (deep_pixels c.args.colors.now c.args.depths.now) (omega arith)
