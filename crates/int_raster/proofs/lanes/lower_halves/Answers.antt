use Rattle.std.proofs.Common.{◌≡◌, length, arith, rules, ◌∙◌}
use Rattle.std.proofs.lemmas.List.{get_or-append_right}
use Rattle.int_raster.proofs.Vectors.{below_four}
use Rattle.int_raster.proofs.lanes.lower_halves.Goals as goal

pub returns-clause-back : goal.returns-clause-back
returns-clause-back c =
    let a = c.parts_of-a.result in
    let b = c.parts_of-b.result in
    let long : length a ≡ 8 = search rules in
    below_four _
    (get_or-append_right a b 8 8 0 long (omega arith) ∙ c.parts_of-b.ensures.lower 0 (omega arith))
    (get_or-append_right a b 8 10 0 long (omega arith) ∙ c.parts_of-b.ensures.lower 1 (omega arith))
    (get_or-append_right a b 8 12 0 long (omega arith) ∙ c.parts_of-b.ensures.lower 2 (omega arith))
    (get_or-append_right a b 8 14 0 long (omega arith) ∙ c.parts_of-b.ensures.lower 3 (omega arith))
