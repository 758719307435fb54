use Rattle.std.proofs.Common.{take, length, ap, ◌∙◌, arith, length-drop}
use Rattle.std.proofs.lemmas.List.{take_rest}
use Rattle.io_whole.proofs.Pieces.{one_more}
use Rattle.io_whole.proofs.Tallies.{counted_more}
use Rattle.io_whole.proofs.putting.put_all.Goals as goal

pub loop-at-preserved : goal.loop-at-preserved
loop-at-preserved g c =
    let rest = take_rest c.args.text.now c.loop-at.at in
    record {
      within = omega (arith, c.in_ok-n.ensures.fits, ap length rest, length-drop c.loop-at.at c.args.text.now);
      sure = c.in_ok-n.ensures.sure ∙ c.loop-at.invariant.sure;
      held = one_more _ _ _ c.args.text.now _ c.loop-at.at c.in_ok-n.n c.loop-at.invariant.held c.in_ok-n.ensures.held (ap (take c.in_ok-n.n) rest);
      none = λ e. absurd (omega (arith, e, c.in_ok-n.ensures.some));
      some = λ lt. counted_more _ _ _ c.args.text.now _ c.loop-at.at c.in_ok-n.n c.loop-at.invariant.none c.loop-at.invariant.some c.in_ok-n.ensures.tally (ap (take c.in_ok-n.n) rest);
      faults = omega (arith, c.in_ok-n.ensures.no_fewer);
    }
