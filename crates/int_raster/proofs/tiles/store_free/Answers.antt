use Rattle.std.proofs.Common.{◌+◌, ◌∙◌, refl, ap, arith}
use Rattle.int_raster.specs.Places.{spanned, in_row}
use Rattle.int_raster.specs.Seen.{color_seen}
use Rattle.int_raster.specs.Tiled.{word_bytes}
use Rattle.int_raster.proofs.Changes.{span_none}
use Rattle.int_raster.proofs.Spread.{free_more}
use Rattle.int_raster.proofs.Tiled.{splat_lane}
use Rattle.int_raster.proofs.Windows.{cut_behind}
use Rattle.int_raster.proofs.tiles.store_free.Goals as goal

pub loop-x-init : goal.loop-x-init
loop-x-init c =
    let s = c.args.span.now in
    record {
      low = omega arith;
      many = refl;
      done = span_none (spanned (in_row s.start s.y (color_seen c.args.draw.now c.args.setup.now)) 0 (s.start + s.after)) (s.start + s.first) c.args.colors.now;
    }

pub loop-x-preserved : goal.loop-x-preserved
loop-x-preserved c =
    let i = c.loop-x.invariant in
    let put = c.put_words.ensures in
    record {
      low = omega (arith, i.low);
      many = put.many ∙ i.many;
      done = free_more c.args.draw.now c.args.setup.now c.args.span.now c.loop-x.x c.args.colors.now c.loop-x.colors c.put_words.new.texels c.args.tile.now c.args.level.now
          c.requires.level c.requires.tile i.low i.done put.many
          (λ j four less. put.bytes j four ∙ ap word_bytes (splat_lane c.args.tile.now.color j four))
          (λ j four more. absurd (omega (arith, four, more)))
          put.others;
    }

pub returns-then-x-after : goal.returns-then-x-after
returns-then-x-after c =
    let s = c.args.span.now in
    let i = c.loop-x.invariant in
    let put = c.store_first.ensures in
    free_more c.args.draw.now c.args.setup.now s c.loop-x.x c.args.colors.now c.loop-x.colors c.store_first.new.colors c.args.tile.now c.args.level.now
    c.requires.level c.requires.tile i.low i.done
    put.many put.stored put.rest put.others
    ∙ cut_behind (in_row s.start s.y (color_seen c.args.draw.now c.args.setup.now)) (s.start + s.first) (s.start + s.after) (s.start + (c.loop-x.x + 4)) c.args.colors.now (omega arith)

pub returns-else-x-after : goal.returns-else-x-after
returns-else-x-after c =
    let s = c.args.span.now in
    c.loop-x.invariant.done ∙ cut_behind (in_row s.start s.y (color_seen c.args.draw.now c.args.setup.now)) (s.start + s.first) (s.start + s.after) (s.start + c.loop-x.x) c.args.colors.now (omega arith)
