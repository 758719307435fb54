use Rattle.std.proofs.Common.{arith}
use Rattle.c_calls.proofs.context.Context.is_abandoned.Goals as goal

pub returns-clause-abandoned : goal.returns-clause-abandoned
returns-clause-abandoned c = λ _.
    let some = c.if-off-eq0.false in
    let same = c.off.ensures in
    record { off = omega (arith, some, same); letter = c.in-Some.letter; says = c.in-Some.ensures; after = c.keep_letter.ensures }
