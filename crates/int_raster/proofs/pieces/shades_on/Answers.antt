use Rattle.std.proofs.Common.{◌+◌}
use Rattle.int_raster.proofs.Ramped.{two_columns, three_columns, four_columns}
use Rattle.int_raster.proofs.pieces.shades_on.Goals as goal

pub returns-clause-colors : goal.returns-clause-colors
returns-clause-colors c s x y j at by h =
    let second = c.tint_on-b.ensures s x y at by in
    let third = two_columns s x y c.tint_on-c.result (c.tint_on-c.ensures s (x + 1) y second by) in
    let fourth = three_columns s x y c.tint_on-d.result (c.tint_on-d.ensures s (x + 2) y third by) in
    c.four_shades.ensures s x y at second third fourth j h

pub returns-clause-next : goal.returns-clause-next
returns-clause-next c s x y at by =
    let second = c.tint_on-b.ensures s x y at by in
    let third = two_columns s x y c.tint_on-c.result (c.tint_on-c.ensures s (x + 1) y second by) in
    let fourth = three_columns s x y c.tint_on-d.result (c.tint_on-d.ensures s (x + 2) y third by) in
    four_columns s x y c.tint_on.result (c.tint_on.ensures s (x + 3) y fourth by)
