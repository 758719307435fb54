use Rattle.std.proofs.Common.{◌≡◌, rules, subst}
use Rattle.std.proofs.lemmas.Bool.{eqb-true}
use Rattle.int_raster.specs.Joined.{HoldRows}
use Rattle.int_raster.proofs.pairs.share_rows.Goals as goal

pub returns : goal.returns
returns c same =
    let own : HoldRows c.drawn_rows-top.result c.args.rows.now c.args.draw.now c.args.other.now =
    record { order = c.drawn_rows-top.ensures.order; within = c.drawn_rows-top.ensures.within; all = c.drawn_rows-top.ensures.all; cut = c.drawn_rows-top.ensures.first } in
    let first : c.drawn_rows-top.result.0 ≡ c.args.shared.0 = search rules in
    let last : c.drawn_rows-top.result.1 ≡ c.args.shared.1 = eqb-true c.drawn_rows-top.result.1 c.args.shared.1 same in
    subst (λ r. HoldRows r c.args.rows.now c.args.draw.now c.args.other.now) (λ i. (first i, last i)) own
