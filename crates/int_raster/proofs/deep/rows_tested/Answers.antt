use Rattle.std.proofs.Common.{◌+◌, ◌*◌, ◌≡◌, length, arith, ap, ◌∙◌}
use Rattle.std.proofs.lemmas.Option.{IfSome_then}
use Rattle.gfx_model.specs.Number.{map_from}
use Rattle.fix_math.specs.Seen.{rect_seen}
use Rattle.int_raster.specs.Places.{below, above, deep_pixels, is_drawn}
use Rattle.int_raster.specs.Seen.{facing_seen, step_seen, change_seen}
use Rattle.int_raster.proofs.Raster.{drawn_column, row_more}
use Rattle.int_raster.proofs.Rowed.{span_here, row_inside}
use Rattle.int_raster.proofs.deep.rows_tested.Goals as goal

pub loop-k-init : goal.loop-k-init
loop-k-init c start e =
    let none : c.args.from ≡ c.args.from + 0 = omega arith in
    e ∙ ap (λ n. map_from (above c.args.rows.now.width n (below c.args.rows.now.top (change_seen c.args.draw.now c.args.setup.now))) 0 start) none

pub drawn_columns-first-requires-clause-held : goal.drawn_columns-first-requires-clause-held
drawn_columns-first-requires-clause-held c = span_here c.args.spans.now c.args.setup.now c.args.limits c.args.rows.now.top c.args.from c.loop-k.k c.args.count c.requires.held c.loop-k-test.true

pub drawn_columns-first-requires-clause-upper : goal.drawn_columns-first-requires-clause-upper
drawn_columns-first-requires-clause-upper c = (c.requires.cut (c.args.from + c.loop-k.k) (omega arith) (omega (arith, c.loop-k-test.true))).0

pub drawn_columns-first-requires-clause-lower : goal.drawn_columns-first-requires-clause-lower
drawn_columns-first-requires-clause-lower c = (c.requires.cut (c.args.from + c.loop-k.k) (omega arith) (omega (arith, c.loop-k-test.true))).1

pub draw_span-requires-clause-inside : goal.draw_span-requires-clause-inside
draw_span-requires-clause-inside c =
    let size : length c.loop-k.colors ≡ c.args.rows.now.width * c.args.rows.now.count = omega (arith, c.loop-k.auto.colors, c.requires.whole) in
    row_inside (c.args.from + c.loop-k.k) c.args.rows.now.count c.args.rows.now.width c.drawn_columns-first.result.1 (length c.loop-k.colors) (omega (arith, c.loop-k-test.true, c.requires.inside)) c.drawn_columns-first.ensures.within size

pub draw_span-requires-clause-paints : goal.draw_span-requires-clause-paints
draw_span-requires-clause-paints c =
    let d = c.args.draw.now in
    let f = facing_seen c.args.draw.now c.args.setup.now in
    let y = c.args.rows.now.top + (c.args.from + c.loop-k.k) in
    let ends = c.drawn_columns-first.result in
    let within = c.drawn_columns-first.ensures.within in
    IfSome_then c.args.brush.now c.requires.paints (λ b h x lo hi. h x y (omega (arith, hi, within)) (omega (arith, c.loop-k-test.true, c.requires.inside)) (drawn_column (rect_seen d.cut) f ends.0 ends.1 x y (c.drawn_columns-first.ensures.columns x (omega (arith, hi, within))) lo hi))

pub draw_span-requires-clause-depths : goal.draw_span-requires-clause-depths
draw_span-requires-clause-depths c =
    let d = c.args.draw.now in
    let f = facing_seen c.args.draw.now c.args.setup.now in
    let y = c.args.rows.now.top + (c.args.from + c.loop-k.k) in
    let ends = c.drawn_columns-first.result in
    let within = c.drawn_columns-first.ensures.within in
    IfSome_then c.args.brush.now c.requires.depths (λ b h x lo hi. h x y (omega (arith, hi, within)) (omega (arith, c.loop-k-test.true, c.requires.inside)) (drawn_column (rect_seen d.cut) f ends.0 ends.1 x y (c.drawn_columns-first.ensures.columns x (omega (arith, hi, within))) lo hi))

pub draw_span-requires-clause-short : goal.draw_span-requires-clause-short
draw_span-requires-clause-short c =
    let d = c.args.draw.now in
    let f = facing_seen c.args.draw.now c.args.setup.now in
    let y = c.args.rows.now.top + (c.args.from + c.loop-k.k) in
    let ends = c.drawn_columns-first.result in
    let within = c.drawn_columns-first.ensures.within in
    IfSome_then c.args.brush.now c.requires.short (λ b g. IfSome_then b.short g (λ r h x lo hi. h x y (omega (arith, hi, within)) (omega (arith, c.loop-k-test.true, c.requires.inside)) (drawn_column (rect_seen d.cut) f ends.0 ends.1 x y (c.drawn_columns-first.ensures.columns x (omega (arith, hi, within))) lo hi)))

pub loop-k-preserved : goal.loop-k-preserved
loop-k-preserved c start e =
    let d = c.args.draw.now in
    let f = facing_seen c.args.draw.now c.args.setup.now in
    let more : c.args.from + c.loop-k.k + 1 ≡ c.args.from + (c.loop-k.k + 1) = omega arith in
    row_more (step_seen c.args.draw.now c.args.setup.now) (is_drawn (rect_seen d.cut) f) c.args.rows.now.width c.args.rows.now.top (c.args.from + c.loop-k.k) c.drawn_columns-first.result.0 c.drawn_columns-first.result.1
    start (deep_pixels c.loop-k.colors c.loop-k.depths) (deep_pixels c.draw_span.new.colors c.draw_span.new.depths)
    c.args.rows.now.wide c.drawn_columns-first.ensures.within c.drawn_columns-first.ensures.columns (c.loop-k.invariant start e) c.draw_span.ensures
    ∙ ap (λ n. map_from (above c.args.rows.now.width n (below c.args.rows.now.top (change_seen c.args.draw.now c.args.setup.now))) 0 start) more

pub returns : goal.returns
returns c start e =
    let last : c.loop-k.k ≡ c.args.count = omega arith in
    c.loop-k.invariant start e ∙ ap (λ n. map_from (above c.args.rows.now.width (c.args.from + n) (below c.args.rows.now.top (change_seen c.args.draw.now c.args.setup.now))) 0 start) last
