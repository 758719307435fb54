use Rattle.std.proofs.Common.{arith}
use Rattle.frame_capture.proofs.Digits.{one-digit, more-digits}
use Rattle.frame_capture.proofs.fields.digits.Goals as goal

pub returns-then-side-lt10-clause-exact : goal.returns-then-side-lt10-clause-exact
returns-then-side-lt10-clause-exact c = one-digit c.args.side (omega (arith, c.if-side-lt10.true))

pub returns-then-side-lt100-clause-exact : goal.returns-then-side-lt100-clause-exact
returns-then-side-lt100-clause-exact c = more-digits 1 c.args.side (omega (arith, c.if-side-lt10.false)) (omega (arith, c.if-side-lt100.true)) (omega (arith, c.requires))

pub returns-then-side-lt1000-clause-exact : goal.returns-then-side-lt1000-clause-exact
returns-then-side-lt1000-clause-exact c = more-digits 2 c.args.side (omega (arith, c.if-side-lt100.false)) (omega (arith, c.if-side-lt1000.true)) (omega (arith, c.requires))

pub returns-clause-exact : goal.returns-clause-exact
returns-clause-exact c = more-digits 3 c.args.side (omega (arith, c.if-side-lt1000.false)) (omega (arith, c.requires)) (omega (arith, c.requires))
