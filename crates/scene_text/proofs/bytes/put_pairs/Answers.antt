use Rattle.std.proofs.Common.{◌*◌, ap, sym, ◌∙◌, arith}
use Rattle.std.proofs.lemmas.Simd.{length-put_chunk}
use Rattle.scene_text.proofs.HexDigits.{sixteen_more}
use Rattle.scene_text.proofs.bytes.put_pairs.Goals as goal

pub loop-bytes-preserved : goal.loop-bytes-preserved
loop-bytes-preserved c =
    let l = c.loop-bytes in
    let v = c.sixteen_pairs.result in
    record {
      within = omega (arith, length-put_chunk l.from l.bytes v, c.loop-bytes-test.true);
      sized = l.invariant.sized ∙ ap (λ n. 2 * n) (sym (length-put_chunk l.from l.bytes v));
      pairs = sixteen_more c.args.digits.now l.bytes v l.from _ l.invariant.sized (omega (arith, c.loop-bytes-test.true)) c.sixteen_pairs.ensures l.invariant.pairs;
    }
