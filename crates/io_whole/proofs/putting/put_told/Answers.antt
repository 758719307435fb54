use Rattle.std.proofs.Common.{length, ap, arith, length-drop}
use Rattle.std.proofs.lemmas.List.{take_rest}
use Rattle.std.proofs.lemmas.Result.{on_ok_weaker}
use Rattle.io_whole.proofs.Pieces.{front_more}
use Rattle.io_whole.proofs.Tallies.{counted_rest}
use Rattle.io_whole.proofs.putting.put_told.Goals as goal

pub returns-else-n-text-clause-tally : goal.returns-else-n-text-clause-tally
returns-else-n-text-clause-tally g c =
    let rest = take_rest c.args.text.now c.in_ok-n-in-Some.n in
    on_ok_weaker c.put_all.result
    (λ told some. counted_rest _ _ _ c.args.text.now _ c.in_ok-n-in-Some.n c.in_ok-n-in-Some.ensures.tally rest (told (omega (arith, ap length rest, length-drop c.in_ok-n-in-Some.n c.args.text.now, c.in_ok-n-in-Some.ensures.fits, c.if-n-text))))
    c.put_all.ensures.tally

pub returns-else-n-text-clause-front : goal.returns-else-n-text-clause-front
returns-else-n-text-clause-front g c = front_more _ _ _ c.args.text.now _ c.in_ok-n-in-Some.n c.in_ok-n-in-Some.ensures.held (take_rest c.args.text.now c.in_ok-n-in-Some.n) c.put_all.ensures.front
