use Rattle.std.proofs.Common.{◌+◌, ◌*◌, ◌++◌, ap, ◌∙◌, arith, nat_lt}
use Rattle.std.specs.Prelude.{filter}
use Rattle.picture_diff.specs.Difference.{differs_at, pixels_apart}
use Rattle.picture_diff.proofs.Rows.{row_front, row-step}
use Rattle.picture_diff.proofs.comparing.find_in_row.Goals as goal

pub loop-x-preserved : goal.loop-x-preserved
loop-x-preserved c =
    let p = c.args.pair.now in
    let test = differs_at p.near p.width p.one.now p.other.now in
    let apart = c.pixels_apart-apart.ensures ∙ ap (λ n. pixels_apart p.one.now p.other.now (3 * (n + c.loop-x.x))) c.requires.start in
    record {
      many = omega (arith, c.with_if-found.ensures.many, c.loop-x.invariant.many);
      found = λ ps e.
          row-step test ps c.loop-x.x c.args.y _ _ (ap (λ n. nat_lt p.near n) apart) (c.with_if-found.ensures.found (ps ++ filter test (row_front c.args.y c.loop-x.x)) (c.loop-x.invariant.found ps e));
    }
