use Rattle.std.proofs.Common.{◌+◌, ◌∙◌, refl, sym, arith}
use Rattle.int_raster.specs.Places.{deep_pixels, spanned, in_row}
use Rattle.int_raster.specs.Seen.{step_seen}
use Rattle.int_raster.proofs.Changes.{span_none}
use Rattle.int_raster.proofs.Spread.{window_more}
use Rattle.int_raster.proofs.Windows.{cut_behind}
use Rattle.int_raster.proofs.tiles.store_tile.Goals as goal

pub loop-x-init : goal.loop-x-init
loop-x-init c =
    let s = c.args.span.now in
    record {
      low = omega arith;
      many = refl;
      deep = refl;
      done = span_none (spanned (in_row s.start s.y (step_seen c.args.draw.now c.args.setup.now)) 0 (s.start + s.after)) (s.start + s.first) (deep_pixels c.args.colors.now c.args.depths.now);
    }

pub loop-x-preserved : goal.loop-x-preserved
loop-x-preserved c =
    let i = c.loop-x.invariant in
    record {
      low = omega (arith, i.low);
      many = c.store_four.ensures.many.0 ∙ i.many;
      deep = c.store_four.ensures.many.1 ∙ i.deep;
      done = window_more c.args.draw.now c.args.setup.now c.args.span.now c.loop-x.x c.args.colors.now c.args.depths.now c.loop-x.colors c.loop-x.depths c.store_four.new.colors c.store_four.new.depths c.args.tile.now c.args.level.now
          c.requires.level c.requires.tile i.low (i.deep ∙ c.requires.same ∙ sym i.many) i.done
          c.store_four.ensures.many c.store_four.ensures.small
          (λ j four less. c.store_four.ensures.stored j four four)
          (λ j four more. absurd (omega (arith, four, more)))
          c.store_four.ensures.others;
    }

pub returns-then-x-after : goal.returns-then-x-after
returns-then-x-after c =
    let s = c.args.span.now in
    let i = c.loop-x.invariant in
    let stored = c.store_four-then-x-after.ensures in
    window_more c.args.draw.now c.args.setup.now s c.loop-x.x c.args.colors.now c.args.depths.now c.loop-x.colors c.loop-x.depths c.store_four-then-x-after.new.colors c.store_four-then-x-after.new.depths c.args.tile.now c.args.level.now
    c.requires.level c.requires.tile i.low (i.deep ∙ c.requires.same ∙ sym i.many) i.done
    stored.many stored.small stored.stored stored.rest stored.others
    ∙ cut_behind (in_row s.start s.y (step_seen c.args.draw.now c.args.setup.now)) (s.start + s.first) (s.start + s.after) (s.start + (c.loop-x.x + 4)) (deep_pixels c.args.colors.now c.args.depths.now) (omega arith)

pub returns-else-x-after : goal.returns-else-x-after
returns-else-x-after c =
    let s = c.args.span.now in
    c.loop-x.invariant.done ∙ cut_behind (in_row s.start s.y (step_seen c.args.draw.now c.args.setup.now)) (s.start + s.first) (s.start + s.after) (s.start + c.loop-x.x) (deep_pixels c.args.colors.now c.args.depths.now) (omega arith)
