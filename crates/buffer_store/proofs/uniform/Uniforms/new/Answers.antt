use Rattle.std.proofs.Common.{◌∙◌, arith}
use Rattle.buffer_store.proofs.SearchLaws.{new_empty}
use Rattle.buffer_store.proofs.uniform.Uniforms.new.Goals as goal

pub invariant_of-result : goal.invariant_of-result
invariant_of-result c = record {
  many = c.in_ok-row.ensures.many ∙ c.greatest.ensures;
  within = omega arith;
  empty = new_empty c.in_ok-row.row _ c.in_ok-row.ensures.none;
}
