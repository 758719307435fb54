use Rattle.std.proofs.Common.{◌+◌, ◌*◌, ◌≡◌, ◌≤◌, length, arith, ap, sym, ◌∙◌}
use Rattle.gfx_model.specs.Number.{map_from}
use Rattle.int_raster.specs.Joined.{is_in}
use Rattle.int_raster.specs.Places.{below, above, deep_pixels, in_row, spanned, where_test}
use Rattle.int_raster.specs.Seen.{step_seen}
use Rattle.int_raster.proofs.Raster.{row_more}
use Rattle.int_raster.proofs.Rowed.{next_start, row_inside, start_small}
use Rattle.int_raster.proofs.deep.rows_tiled.Goals as goal

pub loop-k-init : goal.loop-k-init
loop-k-init c =
    let none : c.args.from ≡ c.args.from + 0 = omega arith in
    record {
      place = ap (λ n. n * c.args.rows.now.width) none;
      small = start_small c.args.from c.args.rows.now.width (omega arith) (omega arith);
      done = λ test start h e. e ∙ ap (λ n. map_from (above c.args.rows.now.width n (below c.args.rows.now.top (where_test test (step_seen c.args.draw.now c.args.setup.now)))) 0 start) none;
    }

pub columns_at-first-requires-clause-inside : goal.columns_at-first-requires-clause-inside
columns_at-first-requires-clause-inside c = c.requires.spans c.loop-k.k c.loop-k-test.true

pub draw_tile-requires-clause-inside : goal.draw_tile-requires-clause-inside
draw_tile-requires-clause-inside c =
    let size : length c.loop-k.colors ≡ c.args.rows.now.width * c.args.rows.now.count = omega (arith, c.loop-k.auto.colors, c.requires.whole) in
    let here : (c.args.from + c.loop-k.k) * c.args.rows.now.width + c.columns_at-first.result.1 ≤ length c.loop-k.colors =
    row_inside (c.args.from + c.loop-k.k) c.args.rows.now.count c.args.rows.now.width c.columns_at-first.result.1 (length c.loop-k.colors) (omega (arith, c.loop-k-test.true, c.requires.inside)) c.columns_at-first.ensures.within size in
    omega (arith, here, c.loop-k.invariant.place)

pub loop-k-preserved : goal.loop-k-preserved
loop-k-preserved c =
    let f = step_seen c.args.draw.now c.args.setup.now in
    let w = c.args.rows.now.width in
    let top = c.args.rows.now.top in
    let row = c.args.from + c.loop-k.k in
    let more : row + 1 ≡ c.args.from + (c.loop-k.k + 1) = omega arith in
    let line : top + row ≡ top + c.args.from + c.loop-k.k = omega arith in
    let ends = c.columns_at-first.result in
    let old = deep_pixels c.loop-k.colors c.loop-k.depths in
    let next = next_start c.args.from c.loop-k.k w c.loop-k.start c.loop-k.invariant.place in
    record {
      place = next;
      small = rw (next) (start_small (c.args.from + (c.loop-k.k + 1)) w (omega (arith, c.loop-k-test.true, c.requires.inside)) (omega arith));
      done = λ test start h e.
          row_more f test w top row ends.0 ends.1
          start old (deep_pixels c.draw_tile.new.colors c.draw_tile.new.depths)
          c.args.rows.now.wide c.columns_at-first.ensures.within
          (λ x b. ap (test x) line ∙ h c.loop-k.k x c.loop-k-test.true b ∙ ap (λ s. is_in s x) (sym c.columns_at-first.ensures.is))
          (c.loop-k.invariant.done test start h e)
          (c.draw_tile.ensures ∙ ap (λ n. map_from (spanned (in_row n (top + row) f) (n + ends.0) (n + ends.1)) 0 old) c.loop-k.invariant.place)
          ∙ ap (λ n. map_from (above w n (below top (where_test test f))) 0 start) more;
    }

pub returns : goal.returns
returns c test start h e =
    let last : c.loop-k.k ≡ c.args.count = omega arith in
    c.loop-k.invariant.done test start h e ∙ ap (λ n. map_from (above c.args.rows.now.width (c.args.from + n) (below c.args.rows.now.top (where_test test (step_seen c.args.draw.now c.args.setup.now)))) 0 start) last
