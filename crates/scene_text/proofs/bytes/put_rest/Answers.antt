use Rattle.std.proofs.Common.{◌*◌, ap, sym, ◌∙◌, arith}
use Rattle.std.proofs.lemmas.List.{length-set}
use Rattle.scene_text.proofs.HexDigits.{pairs_more, pairs_end}
use Rattle.scene_text.proofs.bytes.put_rest.Goals as goal

pub loop-place-preserved : goal.loop-place-preserved
loop-place-preserved c = record {
  pairs = rw c.pair_of.ensures (pairs_more c.args.digits.now c.loop-place.bytes c.loop-place.place 0 _ c.loop-place.invariant.length (omega (arith, c.loop-place-test.true, c.loop-place.auto.bytes)) c.loop-place.invariant.pairs);
  length = c.loop-place.invariant.length ∙ ap (λ n. 2 * n) (sym (length-set c.loop-place.bytes c.loop-place.place c.pair_of.result));
}

pub returns : goal.returns
returns c = pairs_end c.args.digits.now c.loop-place.bytes c.loop-place.place _ c.loop-place.invariant.length (omega (arith, c.loop-place-test.false, c.loop-place.auto.bytes)) c.loop-place.invariant.pairs
