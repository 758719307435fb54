use Rattle.std.proofs.Common.{rules}
use Rattle.int_raster.proofs.Colored.{free_where}
use Rattle.int_raster.proofs.deep.is_other_free.Goals as goal

pub returns : goal.returns
returns c h = free_where c.rule_of-rule.result c.args.draw.now c.args.setup.now c.rule_of-rule.ensures (c.is_over.ensures h) (search rules)
