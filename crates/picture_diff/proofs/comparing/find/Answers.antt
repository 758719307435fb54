use Rattle.std.proofs.Common.{◌+◌, ap, sym, ◌∙◌, arith, suc-mul, suc}
use Rattle.std.specs.Prelude.{filter}
use Rattle.picture_diff.specs.Difference.{differs_at, places}
use Rattle.picture_diff.specs.Told.{found_of}
use Rattle.picture_diff.proofs.Rows.{next-row, rows-more}
use Rattle.picture_diff.proofs.comparing.find.Goals as goal

pub loop-y-preserved : goal.loop-y-preserved
loop-y-preserved c =
    let p = c.args.pair.now in
    let test = differs_at p.near p.width p.one.now p.other.now in
    record {
      start = ap (λ n. n + p.width) c.loop-y.invariant.start ∙ sym (next-row c.loop-y.y p.width);
      many = omega (arith, c.find_in_any_row-found.ensures.many, c.loop-y.invariant.many);
      found = c.find_in_any_row-found.ensures.found (filter test (places p.width c.loop-y.y)) c.loop-y.invariant.found ∙ ap found_of (sym (rows-more test p.width c.loop-y.y));
    }
