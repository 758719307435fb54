use Rattle.std.proofs.Common.{◌<◌, ◌+◌, length, slice_index_or, ap, ◌∙◌, arith}
use Rattle.std.proofs.lemmas.Bool.{ltb-true}
use Rattle.int_raster.specs.Places.{deep_pixels}
use Rattle.int_raster.proofs.Two.{one_in_turn, two_in_turn}
use Rattle.int_raster.proofs.deep.draw_next.Goals as goal

pub returns-then-triangle_in_rows-clause-within : goal.returns-then-triangle_in_rows-clause-within
returns-then-triangle_in_rows-clause-within c = omega (arith, ltb-true (c.args.at + 1) (length c.args.triangles.now) (c.triangle_in_rows.ensures.more c.if-triangle_in_rows.true))

pub returns-then-triangle_in_rows-clause-drawn : goal.returns-then-triangle_in_rows-clause-drawn
returns-then-triangle_in_rows-clause-drawn c start e =
    let more : c.args.at + 1 < length c.args.triangles.now = ltb-true (c.args.at + 1) (length c.args.triangles.now) (c.triangle_in_rows.ensures.more c.if-triangle_in_rows.true) in
    let n = c.triangle_at-next.result.now in
    two_in_turn c.args.rows.now c.args.draw.now start c.args.triangles.now c.args.at c.triangle_at-setup.result.now n
    (deep_pixels c.args.colors.now c.args.depths.now) (deep_pixels c.triangle_in_rows.new.colors c.triangle_in_rows.new.depths) more c.triangle_at-setup.ensures
    (c.triangle_at-next.ensures ∙ ap (λ i. slice_index_or c.args.triangles.now i n) (c.next_place.ensures.next more)) e (c.triangle_in_rows.ensures.two c.if-triangle_in_rows.true)

pub returns-else-triangle_in_rows-clause-drawn : goal.returns-else-triangle_in_rows-clause-drawn
returns-else-triangle_in_rows-clause-drawn c start e =
    one_in_turn c.args.rows.now c.args.draw.now start c.args.triangles.now c.args.at c.triangle_at-setup.result.now
    (deep_pixels c.args.colors.now c.args.depths.now) (deep_pixels c.triangle_in_rows.new.colors c.triangle_in_rows.new.depths) c.requires.some c.triangle_at-setup.ensures e (c.triangle_in_rows.ensures.one c.if-triangle_in_rows.false)
