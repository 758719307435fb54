use Rattle.std.proofs.Common.{◌∙◌, sym}
use Rattle.texel_rows.proofs.RowLaws.{four_exchanged}
use Rattle.texel_rows.proofs.rows.exchange_four.Goals as goal

pub returns-clause-written : goal.returns-clause-written
returns-clause-written c = c.copy_from_slice.ensures.after ∙ sym (four_exchanged c.args.row.now c.requires.four)
