use Rattle.std.proofs.Common.{◌≡◌, ◌<◌, ◌+◌, arith, ap, ◌∙◌}
use Rattle.gfx_model.specs.Number.{map_from}
use Rattle.int_raster.specs.Places.{deep_pixels, spanned, in_row}
use Rattle.int_raster.specs.Seen.{step_seen}
use Rattle.int_raster.proofs.Changes.{span_none, spans_joined}
use Rattle.int_raster.proofs.deep.pieces_with.Goals as goal

pub loop-first-init : goal.loop-first-init
loop-first-init c = record {
  order = omega arith;
  within = c.args.span.now.order;
  done = span_none (in_row c.args.span.now.start c.args.span.now.y (step_seen c.args.draw.now c.args.setup.now)) (c.args.span.now.start + c.args.span.now.first) (deep_pixels c.args.colors.now c.args.depths.now);
}

pub loop-first-preserved : goal.loop-first-preserved
loop-first-preserved c =
    let s = c.args.span.now in
    let p = c.piece-piece.result in
    let e = c.piece-piece.ensures in
    let i = c.loop-first.invariant in
    let some : c.loop-first.first < p.after = e.some c.loop-first-test.true in
    let g = step_seen c.args.draw.now c.args.setup.now in
    let done : (deep_pixels c.store_piece.new.colors c.store_piece.new.depths) ≡ map_from (spanned (in_row s.start s.y g) (s.start + c.loop-first.first) (s.start + p.after)) 0 (deep_pixels c.loop-first.colors c.loop-first.depths) =
    c.store_piece.ensures ∙ (λ j. map_from (spanned (in_row (e.row.0 j) (e.row.1 j) g) (e.row.0 j + e.row.2 j) (e.row.0 j + p.after)) 0 (deep_pixels c.loop-first.colors c.loop-first.depths)) in
    record {
      order = omega (arith, i.order, some);
      within = e.within;
      done = spans_joined (in_row s.start s.y g) (s.start + s.first) (s.start + c.loop-first.first) (s.start + p.after) (deep_pixels c.args.colors.now c.args.depths.now) (deep_pixels c.loop-first.colors c.loop-first.depths) (deep_pixels c.store_piece.new.colors c.store_piece.new.depths) (omega (arith, i.order)) (omega (arith, some)) i.done done;
    }

pub returns : goal.returns
returns c =
    let last : c.loop-first.first ≡ c.args.span.now.after = omega (arith, c.loop-first.invariant.within) in
    c.loop-first.invariant.done
    ∙ ap (λ n. map_from (spanned (in_row c.args.span.now.start c.args.span.now.y (step_seen c.args.draw.now c.args.setup.now)) (c.args.span.now.start + c.args.span.now.first) (c.args.span.now.start + n)) 0 (deep_pixels c.args.colors.now c.args.depths.now)) last
