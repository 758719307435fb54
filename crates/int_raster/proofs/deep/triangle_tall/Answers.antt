use Rattle.std.proofs.Common.{◌+◌, ◌≡◌, arith, ap, ◌∙◌}
use Rattle.std.proofs.lemmas.Bool.{and_parts}
use Rattle.int_raster.proofs.Along.{length-deep}
use Rattle.gfx_model.specs.Number.{map_from}
use Rattle.gfx_model.specs.Raster.{contains, covers}
use Rattle.fix_math.specs.Seen.{rect_seen}
use Rattle.int_raster.specs.Places.{below, above, deep_pixels, is_drawn}
use Rattle.int_raster.specs.Seen.{facing_seen, step_seen, change_seen}
use Rattle.int_raster.proofs.Raster.{rows_before, rows_behind}
use Rattle.int_raster.proofs.Two.{spans_inside, holds_drawn}
use Rattle.int_raster.proofs.deep.triangle_tall.Goals as goal

pub loop-row-init : goal.loop-row-init
loop-row-init c =
    let d = c.args.draw.now in
    let f = facing_seen c.args.draw.now c.args.setup.now in
    record {
      first = omega arith;
      within = c.drawn_rows-top.ensures.order;
      done = rows_before (below c.args.rows.now.top (step_seen c.args.draw.now c.args.setup.now)) (λ x y. is_drawn (rect_seen d.cut) f x (c.args.rows.now.top + y)) c.args.rows.now.width c.args.rows.now.count c.drawn_rows-top.result.0 (deep_pixels c.args.colors.now c.args.depths.now) c.args.rows.now.wide
          (length-deep c.args.colors.now c.args.depths.now c.requires.same ∙ c.requires.whole)
          (λ x y b t. let p = and_parts (contains (rect_seen d.cut) x (c.args.rows.now.top + y)) (covers f.triangle x (c.args.rows.now.top + y)) t in (c.drawn_rows-top.ensures.all x y b p.0 p.1).0);
    }

pub rows_tiled-requires-clause-spans : goal.rows_tiled-requires-clause-spans
rows_tiled-requires-clause-spans c =
    spans_inside c.spans.new.spans c.args.setup.now c.drawn_limits-limits.result c.args.draw.now.cut c.args.rows.now.width (c.args.rows.now.top + c.loop-row.row) c.min-count.result c.spans.ensures.spans c.drawn_limits-limits.ensures

pub loop-row-preserved : goal.loop-row-preserved
loop-row-preserved c = record {
  first = omega (arith, c.loop-row.invariant.first);
  within = omega (arith, c.loop-row-test.true);
  done = c.rows_tiled.ensures (is_drawn (rect_seen c.args.draw.now.cut) (facing_seen c.args.draw.now c.args.setup.now)) (deep_pixels c.args.colors.now c.args.depths.now)
      (holds_drawn c.spans.new.spans c.args.draw.now c.args.setup.now c.drawn_limits-limits.result c.args.rows.now.width (c.args.rows.now.top + c.loop-row.row) c.min-count.result c.spans.ensures.spans c.drawn_limits-limits.ensures
      (λ k b. let here = c.drawn_rows-top.ensures.first (c.loop-row.row + k) (omega (arith, c.loop-row.invariant.first)) (omega (arith, b, c.loop-row-test.true)) in (omega (arith, here.0), omega (arith, here.1))))
      c.loop-row.invariant.done;
}

pub returns : goal.returns
returns c =
    let d = c.args.draw.now in
    let f = facing_seen c.args.draw.now c.args.setup.now in
    let last : c.loop-row.row ≡ c.drawn_rows-top.result.1 = omega (arith, c.loop-row.invariant.within) in
    rows_behind (below c.args.rows.now.top (step_seen c.args.draw.now c.args.setup.now)) (λ x y. is_drawn (rect_seen d.cut) f x (c.args.rows.now.top + y)) c.args.rows.now.width c.args.rows.now.count c.drawn_rows-top.result.1 (deep_pixels c.args.colors.now c.args.depths.now) (deep_pixels c.loop-row.colors c.loop-row.depths) c.args.rows.now.wide
    (length-deep c.args.colors.now c.args.depths.now c.requires.same ∙ c.requires.whole)
    (λ x y b t. let p = and_parts (contains (rect_seen d.cut) x (c.args.rows.now.top + y)) (covers f.triangle x (c.args.rows.now.top + y)) t in (c.drawn_rows-top.ensures.all x y b p.0 p.1).1)
    (c.loop-row.invariant.done ∙ ap (λ n. map_from (above c.args.rows.now.width n (below c.args.rows.now.top (change_seen c.args.draw.now c.args.setup.now))) 0 (deep_pixels c.args.colors.now c.args.depths.now)) last)
