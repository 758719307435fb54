use Rattle.std.proofs.Common.{◌∙◌, refl, subst, arith}
use Rattle.std.specs.Prelude.{slice_index_or}
use Rattle.int_raster.specs.Joined.{IsJoined}
use Rattle.int_raster.proofs.Two.{join_more, other_row}
use Rattle.int_raster.proofs.pairs.join.Goals as goal

pub loop-k-init : goal.loop-k-init
loop-k-init c = record {
  joined = λ i b. absurd (omega (arith, b));
  left = λ i b. refl;
}

pub loop-k-preserved : goal.loop-k-preserved
loop-k-preserved c = record {
  joined = join_more c.loop-k.k c.loop-k.spans c.put_columns.new.list c.args.spans.now c.args.others.now c.joined.result c.loop-k.invariant.joined c.put_columns.ensures.here c.put_columns.ensures.others
      (subst (λ a. IsJoined c.joined.result a (slice_index_or c.args.others.now c.loop-k.k (0, 0))) (c.columns_of-a.ensures ∙ c.loop-k.invariant.left c.loop-k.k (omega arith))
      (subst (λ b. IsJoined c.joined.result c.columns_of-a.result b) c.columns_of-b.ensures c.joined.ensures));
  left = λ i b. c.put_columns.ensures.others i (other_row c.loop-k.k i (omega (arith, b))) ∙ c.loop-k.invariant.left i (omega (arith, b));
}
