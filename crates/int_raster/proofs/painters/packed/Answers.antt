use Rattle.std.proofs.Common.{rules, ◌∙◌}
use Rattle.std.proofs.lemmas.Nat.{le_bytes_4}
use Rattle.int_raster.proofs.painters.packed.Goals as goal

pub returns : goal.returns
returns c = c.to_le_bytes.ensures ∙ le_bytes_4 c.args.color _ (search rules) (search rules) c.from_le_bytes.ensures
