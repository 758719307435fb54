use Rattle.std.proofs.Common.{◌+◌, ◌∙◌, rules}
use Rattle.int_raster.proofs.Along.{length-deep}
use Rattle.std.proofs.lemmas.Bool.{and_parts}
use Rattle.gfx_model.specs.Raster.{contains, covers}
use Rattle.fix_math.specs.Seen.{rect_seen}
use Rattle.int_raster.specs.Places.{below, is_drawn, deep_pixels}
use Rattle.int_raster.specs.Seen.{facing_seen, step_seen}
use Rattle.int_raster.proofs.Raster.{rows_none}
use Rattle.int_raster.proofs.deep.triangle_in_rows.Goals as goal

pub returns-clause-one : goal.returns-clause-one
returns-clause-one c alone =
    let d = c.args.draw.now in
    let f = facing_seen c.args.draw.now c.args.setup.now in
    let top = c.args.rows.now.top in
    rows_none (below top (step_seen c.args.draw.now c.args.setup.now)) (λ x y. is_drawn (rect_seen d.cut) f x (top + y)) c.args.rows.now.width c.args.rows.now.count (deep_pixels c.args.colors.now c.args.depths.now) c.args.rows.now.wide
    (length-deep c.args.colors.now c.args.depths.now c.requires.same ∙ c.requires.whole)
    (λ x y b t. let p = and_parts (contains (rect_seen d.cut) x (top + y)) (covers f.triangle x (top + y)) t in c.meets.ensures x y (search rules) b p.0 p.1)
