use Rattle.std.proofs.Common.{refl, arith}
use Rattle.std.proofs.lemmas.List.FromFn.{length-range_with_len}
use Rattle.handle_alloc.proofs.Pairs.{paired-counting}
use Rattle.handle_alloc.proofs.HandleAlloc.new.Goals as goal

pub invariant_of-result : goal.invariant_of-result
invariant_of-result c = rw (c.in_ok-order.ensures, c.in_ok-places.ensures, length-range_with_len 0 c.args.max) (paired-counting c.args.max, omega arith, omega arith)

pub returns : goal.returns
returns c = rw (c.in_ok-order.ensures, length-range_with_len 0 c.args.max) refl
