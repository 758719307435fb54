use Rattle.int_raster.proofs.Colored.{free_where}
use Rattle.int_raster.proofs.deep.is_plain_free.Goals as goal

pub returns : goal.returns
returns c h = free_where c.args.rule.now c.args.draw.now c.args.setup.now c.requires.rule (c.is_over.ensures h) c.requires.plain
