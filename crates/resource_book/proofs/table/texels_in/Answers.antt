use Rattle.std.proofs.Common.{ap, ◌∙◌, arith, ◌+◌, ℕ}
use Rattle.gfx_model.specs.Resources.{texel_count}
use Rattle.std.proofs.lemmas.List.{take_all}
use Rattle.resource_book.specs.Seen.{row_seen, rows_seen}
use Rattle.resource_book.specs.Tables.{texels_of}
use Rattle.resource_book.proofs.TableLaws.{sum_next}
use Rattle.resource_book.proofs.table.texels_in.Goals as goal

pub loop-i-preserved : goal.loop-i-preserved
loop-i-preserved c = record {
  sum = c.more_texels-texels.ensures.same ∙ ap (λ (n : ℕ). n + texel_count (row_seen c.index-rows-i.result).content) c.loop-i.invariant.sum ∙ sum_next c.args.rows.now c.loop-i.i c.index-rows-i.result c.loop-i-test.true c.index-rows-i.is;
  most = let a = c.more_texels-texels.ensures.most in let b = c.loop-i.invariant.most in omega (arith, a, b);
}

pub returns-clause-sum : goal.returns-clause-sum
returns-clause-sum c = c.loop-i.invariant.sum ∙ ap (λ rows. texels_of (rows_seen rows)) (take_all c.loop-i.i c.args.rows.now (omega (arith, c.loop-i-test.false)))
