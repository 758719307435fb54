use Rattle.std.proofs.Common.{◌≡◌, length, arith, rules, ◌∙◌}
use Rattle.std.proofs.lemmas.List.{get_or-append_right}
use Rattle.int_raster.proofs.Vectors.{below_four}
use Rattle.int_raster.proofs.lanes.upper_parts.Goals as goal

pub returns-clause-back : goal.returns-clause-back
returns-clause-back c =
    let a = c.parts_of-a.result in
    let b = c.parts_of-b.result in
    let long : length a ≡ 8 = search rules in
    below_four _
    (get_or-append_right a b 8 9 0 long (omega arith) ∙ c.parts_of-b.ensures.upper 0 (omega arith))
    (get_or-append_right a b 8 11 0 long (omega arith) ∙ c.parts_of-b.ensures.upper 1 (omega arith))
    (get_or-append_right a b 8 13 0 long (omega arith) ∙ c.parts_of-b.ensures.upper 2 (omega arith))
    (get_or-append_right a b 8 15 0 long (omega arith) ∙ c.parts_of-b.ensures.upper 3 (omega arith))
