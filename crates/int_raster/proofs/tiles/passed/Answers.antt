use Rattle.std.proofs.Common.{◌&&◌, nat_le, nat_lt, sym, ◌∙◌}
use Rattle.int_raster.proofs.Tiled.{order_is}
use Rattle.int_raster.proofs.tiles.passed.Goals as goal

pub returns-clause-test : goal.returns-clause-test
returns-clause-test c stored small =
    let r = c.args.rule.now in
    order_is r.less r.equal r.greater c.args.depth stored small c.requires.few c.requires.order
    ∙ (λ i. nat_le (sym c.first_passed.ensures i) stored && nat_lt stored (sym c.after_passed.ensures i))
